-- Ages as numbers of units.
use Rattle.std.specs.Prelude.{ℕ, ◌/◌, ◌%◌, ◌==◌, List, codes, if◌then◌else◌}
use Rattle.manifests.specs.declared.ages.TheConstants.{DAY, HOUR, WEEK}
use Rattle.manifests.specs.declared.ages.AgeUnit.{AgeUnit}
use Rattle.manifests.specs.declared.ages.AgeUnit.TheVariants.{Hours, Days, Weeks}

-- the seconds of a unit
abbrev pub seconds_in : AgeUnit → ℕ
seconds_in Hours = HOUR
seconds_in Days = DAY
seconds_in Weeks = WEEK

abbrev pub unit_word : AgeUnit → List ℕ
unit_word Hours = codes "hours"
unit_word Days = codes "days"
unit_word Weeks = codes "weeks"

-- the largest unit of which whole hours are a multiple; days for none
unfoldable pub largest_unit : ℕ → AgeUnit
largest_unit seconds =
    if seconds == 0 then Days else
    if seconds % WEEK == 0 then Weeks else
    if seconds % DAY == 0 then Days else Hours

-- how many of its units an age has
abbrev pub count_of : ℕ → ℕ
count_of seconds = seconds / seconds_in (largest_unit seconds)
