-- A group comes to stand in the store of the example, with a file that no kept view has.
use Rattle.std.proofs.Common.{◌≡◌, ◌++◌, ◌∙◌, ℕ, List, [], ◌∷◌, map, refl, sym, ap, arith}
use Rattle.std.proofs.lemmas.List.Kept.{AllPairs-cons}
use Rattle.small_types.specs.declared.limits.TheConstants.{NAME_LIMIT}
use Rattle.digest_list.specs.Matches.{IsDigestOf}
use Rattle.manifests.specs.declared.facts.FileEntry.{FileEntry}
use Rattle.machine.specs.Fields.{IsShort}
use Rattle.machine.specs.GroupLaws.{GroupsMayCome}
use Rattle.machine.specs.Grouped.{AreOfGroup, StandAmong, grouped}
use Rattle.machine.specs.Shape.{bare_view}
use Rattle.machine.specs.Sound.{IsWhole, ShareBytes, program_files_of}
use Rattle.machine.specs.Store.{Store}
use Rattle.machine.specs.Valid.{Valid}
use Rattle.machine.specs.Views.{ContentKey, ListedFile, content_key}
use Rattle.machine.specs.Weight.{weight_of}
use Rattle.machine.proofs.Example as old
use Rattle.machine.proofs.FoundTexts.{ascii_text}
use Rattle.machine.proofs.GrownViews.{grouped_ordered, grouped_sound, room_after}
use Rattle.machine.proofs.Lightness.{no_halves}

abbrev group : List ℕ
group = old.named 104

abbrev came : ListedFile
came = record { entry = old.absent; bytes = old.absent_bytes }

abbrev program_files : List ListedFile
program_files = old.program_file ∷ old.optional_file ∷ came ∷ []

abbrev new : Store
new = grouped 2 group program_files old.store

came_is_whole : IsWhole came
came_is_whole = record {
  sized = refl;
  some = λ none. absurd cc;
  digests = old.one (IsDigestOf old.absent_bytes) (old.digest_of old.absent_bytes) refl;
}

-- ---- its content is a new one

sizes_apart : (a b : FileEntry) (n m : ℕ) → a.size ≡ n → b.size ≡ m → (n ≡ m → ⊥)
    → ◌≡◌ {A = ContentKey} (content_key a) (content_key b) → ⊥
sizes_apart a b n m is other differ same =
    differ (sym is ∙ ap (λ (k : ContentKey). k.size) same ∙ other)

program_apart : old.AreShared old.program_file came
program_apart same =
    absurd (sizes_apart old.program old.absent 1 3 refl refl (λ e. omega (arith, e)) same)

optional_apart : old.AreShared old.optional_file came
optional_apart same =
    absurd (sizes_apart old.optional old.absent 2 3 refl refl (λ e. omega (arith, e)) same)

all_shared : ShareBytes (program_files_of old.store ++ came ∷ [])
all_shared =
    AllPairs-cons old.AreShared old.program_file
    (old.program_file ∷ old.optional_file ∷ came ∷ [])
    (old.three (old.AreShared old.program_file) old.program_file old.optional_file came
    (λ same. refl) old.others_apart program_apart)
    (AllPairs-cons old.AreShared old.program_file (old.optional_file ∷ came ∷ [])
    (old.two (old.AreShared old.program_file) old.optional_file came old.others_apart program_apart)
    (old.pair old.AreShared old.optional_file came optional_apart))

-- ---- it comes

fetched : AreOfGroup group old.store old.second (came ∷ [])
fetched = record {
  listed = refl;
  whole = old.one IsWhole came came_is_whole;
  shared = all_shared;
}

among : StandAmong group old.second (came ∷ []) program_files
among = record { order = refl; came = refl; stayed = refl }

is_short : IsShort NAME_LIMIT group
is_short = record { within = omega arith; utf8 = ascii_text group refl }

new_is_valid : Valid new
new_is_valid = record {
  ordered = grouped_ordered 2 group program_files old.store old.second refl among.order is_short
      old.store_is_ordered;
  room = (let used = room_after 2 group program_files old.store old.second refl among.order
      old.store_is_ordered in omega (arith, used, old.counted));
  light = no_halves new.room (weight_of (map bare_view new.views) new.apps) refl;
}

pub growth : GroupsMayCome
growth = (
  old.store,
  new,
  record {
    lease = 2;
    group = group;
    view = old.second;
    before = old.store_is_sound;
    leased = refl;
    absent = refl;
    wanted = omega arith;
    room = omega (arith, old.counted);
    comes = record {
      files = came ∷ [];
      fetched = fetched;
      program_files = program_files;
      among = among;
      is = refl;
    };
    after = grouped_sound 2 group program_files old.store old.second refl (came ∷ []) fetched among
        new_is_valid old.store_is_sound;
  },
)
