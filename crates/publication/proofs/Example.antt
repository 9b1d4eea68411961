-- Words that the command takes, and what they give.
use Rattle.std.proofs.Common.{◌≡◌, refl, codes, Some, List, [], ◌∷◌}
use Rattle.clap.specs.Words.{Text, all_of, first_of}
use Rattle.clap.proofs.OnLiterals.{clap_on_literals}
use Rattle.publication.specs.Command.{Takes, faults, matches_in, publish_app}

abbrev words : List Text
words =
    codes "data:a.db" ∷ codes "--to" ∷ codes "one" ∷ codes "--plain" ∷ codes "--from=in" ∷ codes "--entry" ∷ codes "app.exe" ∷ codes "data:b.db"
    ∷ codes "--release" ∷ codes "1.0.0.0" ∷ codes "--name" ∷ codes "demo" ∷ []

pub is_taken : Takes words
unfolding Takes publish_app clap_on_literals
is_taken = refl

pub has_no_fault : faults words ≡ []
unfolding faults publish_app clap_on_literals
has_no_fault = refl

pub has_name : first_of (codes "name") (matches_in words) ≡ Some (codes "demo")
unfolding matches_in publish_app clap_on_literals
has_name = refl

pub has_default : first_of (codes "check") (matches_in words) ≡ Some (codes "none")
unfolding matches_in publish_app clap_on_literals
has_default = refl

pub has_marks : all_of (codes "marks") (matches_in words) ≡ Some (codes "data:a.db" ∷ codes "data:b.db" ∷ [])
unfolding matches_in publish_app clap_on_literals
has_marks = refl
