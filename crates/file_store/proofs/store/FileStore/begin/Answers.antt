use Rattle.std.proofs.Common.{◌≡◌, ◌-◌, ◌≤◌, ◌<◌, ℕ, List, ◌++◌, length, reverse, take, drop, All, arith, sym, ◌∙◌, ap, subst}
use Rattle.std.proofs.lemmas.List.{length-reverse, length-drop, take_rest}
use Rattle.std.proofs.lemmas.List.Elements.{All-drop}
use Rattle.small_types.specs.Blocks.{AreApart}
use Rattle.file_store.proofs.Apart.{all_reverse, apart_few, apart_reverse, taken_apart, taken_first}
use Rattle.file_store.proofs.store.FileStore.begin.Goals as goal

-- the blocks of the draft
handed : (free seen made listed : List ℕ) (keep : ℕ) → seen ≡ free → made ≡ reverse (take (length seen - keep) (drop keep seen)) → listed ≡ made → listed ≡ reverse (drop keep free)
handed free seen made listed keep same is last = last ∙ is ∙ ap reverse (take_rest seen keep) ∙ ap (λ (l : List ℕ). reverse (drop keep l)) same

pub invariant_of-result : goal.invariant_of-result
invariant_of-result c =
    let free = c.args.self.now.free.items in
    let keep = c.len.result - c.div_ceil-need.result in
    let is : c.from_vec.result ≡ reverse (drop keep free) = handed free c.deref.result.now c.in_ok-blocks.blocks.items c.from_vec.result keep c.deref.ensures.value c.in_ok-blocks.ensures c.from_vec.ensures in
    let few : length free ≤ c.args.self.now.blocks = apart_few free c.args.self.now.blocks c.args.self.now.apart c.args.self.now.below in
    let size : length c.from_vec.result ≡ length free - keep = ap length is ∙ length-reverse (drop keep free) ∙ length-drop keep free in
    let long : c.len.result ≡ length free = omega (arith, c.len.ensures, c.args.self.now.free.ok) in
    let need : c.div_ceil-need.result ≤ length free = omega (arith, c.if-need-free.false, c.free-free.ensures, length-reverse free) in
    record {
      counted = omega (arith, c.div_ceil-need.ensures);
      within = omega arith;
      few = omega (arith, c.args.self.now.limit);
      apart = subst AreApart (sym is) (taken_apart free keep c.args.self.now.apart);
    }

pub returns-clause-takes : goal.returns-clause-takes
returns-clause-takes c =
    let free = c.args.self.now.free.items in
    let keep = c.len.result - c.div_ceil-need.result in
    let is : c.from_vec.result ≡ reverse (drop keep free) = handed free c.deref.result.now c.in_ok-blocks.blocks.items c.from_vec.result keep c.deref.ensures.value c.in_ok-blocks.ensures c.from_vec.ensures in
    taken_first free keep ∙ ap (λ (l : List ℕ). l ++ reverse (take keep free)) (sym is) ∙ ap (λ (l : List ℕ). c.from_vec.result ++ reverse l) (sym c.truncate.ensures.items)

pub returns-clause-used : goal.returns-clause-used
returns-clause-used c =
    let free = c.args.self.now.free.items in
    let keep = c.len.result - c.div_ceil-need.result in
    let is : c.from_vec.result ≡ reverse (drop keep free) = handed free c.deref.result.now c.in_ok-blocks.blocks.items c.from_vec.result keep c.deref.ensures.value c.in_ok-blocks.ensures c.from_vec.ensures in
    let whole : reverse free ≡ c.from_vec.result ++ reverse c.truncate.new.self.items =
    taken_first free keep ∙ ap (λ (l : List ℕ). l ++ reverse (take keep free)) (sym is) ∙ ap (λ (l : List ℕ). c.from_vec.result ++ reverse l) (sym c.truncate.ensures.items) in
    record {
      within = subst (All (λ b. b < c.args.self.now.blocks)) (sym is) (all_reverse (λ b. b < c.args.self.now.blocks) (drop keep free) (All-drop (λ b. b < c.args.self.now.blocks) keep free c.args.self.now.below));
      apart = subst AreApart whole (apart_reverse free c.args.self.now.apart);
    }
