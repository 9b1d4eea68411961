-- Whether a view has some bytes under a name already.
use Rattle.std.proofs.Common.{◌≡◌, ◌∙◌, ◌↔◌, sym, ap, subst, ℕ, Bool, true, false, List, All, length, Option, Some, None, Result, Ok, Err, IfOk, eqb}
use Rattle.std.specs.Prelude.{IsTrue, option_and_then, option_map}
use Rattle.std.proofs.lemmas.Bool.{false≢true}
use Rattle.std.proofs.lemmas.Option.{none-some, same_Some}
use Rattle.outside.specs.declared.failed.Failed.{Failed}
use Rattle.small_types.specs.Blocks.{IsContent, blocks_start}
use Rattle.small_types.specs.declared.room.Room.{Room}
use Rattle.small_types.proofs.KeptBlocks.{bytes_content}
use Rattle.machine.proofs.FirstFound.{find_in}
use Rattle.machine.proofs.Members.{In, all_in}
use Rattle.store_state.specs.declared.view.LocalFile.{LocalFile}
use Rattle.store_state.specs.declared.view.View.{View}
use Rattle.store_state.specs.Locals.{local_at, local_named}
use Rattle.store_state.specs.Rows.{row_at}
use Rattle.store_state.specs.Stored.{HasLocals, data_bytes}
use Rattle.store_state.specs.Tables.{Tables}

-- the view of a number is one of the tables
pub view_in : (number : ℕ) (views : List View) (view : View) → Some view ≡ row_at number views
    → In view views
view_in number views view is = (find_in (λ (v : View). eqb v.number number) views view (sym is)).0

-- a data file stands in its blocks, where the image has as many bytes of it as its length says
pub local_in_blocks : (room : Room) (base : ℕ) (seen : List ℕ) (view : View) (file : LocalFile) (views : List View)
    → base ≡ blocks_start room.half → All (λ (v : View). HasLocals room seen v.locals) views
    → In view views → In file view.locals
    → (length (data_bytes room seen file) ≡ file.length)
    × IsContent base file.held (data_bytes room seen file) seen
local_in_blocks room base seen view file views front locals kept there =
    let whole : length (data_bytes room seen file) ≡ file.length =
    all_in (λ (f : LocalFile). length (data_bytes room seen f) ≡ f.length) view.locals file
    (all_in (λ (v : View). HasLocals room seen v.locals) views view locals kept) there in (
      whole,
      subst (λ (b : ℕ). IsContent b file.held (data_bytes room seen file) seen) (sym front)
          (bytes_content (blocks_start room.half) file.length file.held seen whole),
    )

module _ (room : Room) (tables : Tables) (number : ℕ) (name bytes seen : List ℕ) where
  -- the image has the bytes under the name
  abbrev pub Has : Type 0
  Has = option_map (data_bytes room seen) (local_at number name tables) ≡ Some bytes

  -- there is a file of the name, and it was compared
  module _ (view : View) (file : LocalFile) (is_view : Some view ≡ row_at number tables.views)
      (is_file : Some file ≡ local_named name view.locals) where
    at_place : local_at number name tables ≡ Some file
    at_place =
        ap (λ (o : Option View). option_and_then (λ (v : View). local_named name v.locals) o) (sym is_view)
        ∙ sym is_file

    shown : option_map (data_bytes room seen) (local_at number name tables) ≡ Some (data_bytes room seen file)
    shown = ap (option_map (data_bytes room seen)) at_place

    pub stands_found : (result : Result Bool Failed)
        → IfOk result (λ (same : Bool). IsTrue same ↔ (data_bytes room seen file ≡ bytes))
        → IfOk result (λ (same : Bool). IsTrue same ↔ Has)
    stands_found (Ok same) tells = (
      λ is. shown ∙ ap Some (tells.0 is),
      λ has. tells.1 (same_Some (data_bytes room seen file) bytes (sym shown ∙ has)),
    )
    stands_found (Err fault) tells = tt

  -- there is none
  none_has : local_at number name tables ≡ None → Has → ⊥
  none_has none has = none-some bytes (sym (ap (option_map (data_bytes room seen)) none) ∙ has)

  none_stands : local_at number name tables ≡ None → IsTrue false ↔ Has
  none_stands none = (λ is. absurd (false≢true is), λ has. absurd (none_has none has))

  pub no_view : None ≡ row_at number tables.views → IsTrue false ↔ Has
  no_view is =
      none_stands (ap (λ (o : Option View). option_and_then (λ (v : View). local_named name v.locals) o) (sym is))

  pub no_file : (view : View) → Some view ≡ row_at number tables.views
      → None ≡ local_named name view.locals → IsTrue false ↔ Has
  no_file view is_view is_file =
      none_stands (ap (λ (o : Option View). option_and_then (λ (v : View). local_named name v.locals) o) (sym is_view)
      ∙ sym is_file)
