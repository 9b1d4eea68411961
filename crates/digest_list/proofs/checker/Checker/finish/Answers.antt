use Rattle.std.proofs.Common.{◌≡◌, ◌≢◌, ◌∙◌, ℕ, List, [], length, position, find, Some, None, refl, sym, subst, arith}
use Rattle.digest_list.specs.declared.digest.Digest.{Digest}
use Rattle.digest_list.specs.Checker.{IsFed}
use Rattle.digest_list.specs.Difference.{is_other}
use Rattle.digest_list.specs.Hashers.{HaveSums}
use Rattle.digest_list.specs.Wrong.{is_wrong}
use Rattle.digest_list.proofs.MatchLemmas.{Matches-none, none-Matches, nonempty}
use Rattle.digest_list.proofs.DifferenceLemmas.{difference_of-found, difference_of-none, difference_of-size, distinct-placed, find-placed, none_other, placed, sum_of-placed}
use Rattle.std.proofs.lemmas.Option.{none-some}
use Rattle.digest_list.proofs.checker.Checker.finish.Goals as goal

pub returns-then-count-size-clause-exact : goal.returns-then-count-size-clause-exact
returns-then-count-size-clause-exact c list size m fed =
    let other : length m ≢ size = λ same. c.if-count-size.true (omega (arith, same, fed.count, fed.sized)) in
    rw (fed.sized, fed.count, difference_of-size list size m other)

-- nothing was found to differ
none_found : (c : goal.After-drop-listed-inside-in-None-1) (list : List Digest) (size : ℕ) (m : List ℕ) → IsFed c.args.self list size m
    → find (is_other m) list ≡ None
none_found c list size m fed =
    let sums = c.finish-sums.result in
    let P : List Digest → Type 0 = λ ds. position (is_wrong sums) ds ≡ None in
    let place = subst P (c.as_slice.ensures.value ∙ fed.listed) (sym c.first_wrong.ensures ∙ c.in-None.is) in
    none_other sums list m (c.finish-sums.ensures list m fed.hashers) place

pub returns-in-None-clause-exact : goal.returns-in-None-clause-exact
returns-in-None-clause-exact c list size m fed =
    let sized : length m ≡ size = omega (arith, fed.count, fed.sized, c.if-count-size.false) in
    rw (difference_of-none list size m sized (none_found c list size m fed))

pub returns-in-None-clause-matches : goal.returns-in-None-clause-matches
returns-in-None-clause-matches c list size m fed =
    let sized : length m ≡ size = omega (arith, fed.count, fed.sized, c.if-count-size.false) in
    let some : list ≢ [] = rw fed.listed at (nonempty c.args.self.listed c.as_slice.ensures.count.some) in
    (λ _. Matches-none list size m sized some (none_found c list size m fed), λ _. refl)

-- the place of the first wrong digest in the list
place_found : (c : goal.After-difference_at) → position (is_wrong c.finish-sums.result) c.args.self.listed ≡ Some c.in-Some.place
place_found c =
    let P : List Digest → Type 0 = λ ds. position (is_wrong c.finish-sums.result) ds ≡ Some c.in-Some.place in
    subst P c.as_slice.ensures.value (sym c.first_wrong.ensures ∙ c.in-Some.is)

pub returns-in-Some-clause-exact : goal.returns-in-Some-clause-exact
returns-in-Some-clause-exact c list size m fed =
    let sums = c.finish-sums.result in
    let listed = c.args.self.listed in
    let sized : length m ≡ size = omega (arith, fed.count, fed.sized, c.if-count-size.false) in
    let have : HaveSums sums listed m = rw fed.listed (c.finish-sums.ensures list m fed.hashers) in
    let first = placed (is_wrong sums) listed c.in-Some.place (place_found c) in
    let Finds : List Digest → Type 0 = λ ds. find (is_other m) ds ≡ Some first.0 in
    let found = subst Finds fed.listed (find-placed sums listed m c.in-Some.place first.0 have (place_found c) first.1) in
    rw (c.difference_at.ensures first.0 first.1.at, sum_of-placed sums listed m c.in-Some.place first.0 have first.1, difference_of-found list size m first.0 sized found)

pub returns-in-Some-clause-matches : goal.returns-in-Some-clause-matches
returns-in-Some-clause-matches c list size m fed =
    let sums = c.finish-sums.result in
    let listed = c.args.self.listed in
    let have : HaveSums sums listed m = rw fed.listed (c.finish-sums.ensures list m fed.hashers) in
    let first = placed (is_wrong sums) listed c.in-Some.place (place_found c) in
    let Finds : List Digest → Type 0 = λ ds. find (is_other m) ds ≡ Some first.0 in
    let found = subst Finds fed.listed (find-placed sums listed m c.in-Some.place first.0 have (place_found c) first.1) in
    (λ h. cc h, λ is. absurd (none-some first.0 (sym (none-Matches list size m is) ∙ found)))

pub returns-in-Some-clause-shown : goal.returns-in-Some-clause-shown
returns-in-Some-clause-shown c =
    let sums = c.finish-sums.result in
    let first = placed (is_wrong sums) c.args.self.listed c.in-Some.place (place_found c) in
    rw (c.difference_at.ensures first.0 first.1.at) (distinct-placed sums c.args.self.listed c.in-Some.place first.0 first.1)
