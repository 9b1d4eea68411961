-- How a call ends.
use Rattle.std.specs.Prelude.{◌≡◌, ℕ, Option, Some, None, Result, Ok, Err}
use Rattle.machine.specs.declared.event.Event.{Event}
use Rattle.machine.specs.declared.event.Event.TheVariants.{Boot, Line, Unread}
use Rattle.updater_cli.specs.declared.status.Status.{Status}
use Rattle.updater_cli.specs.declared.status.Status.TheVariants.{Done, Words, SourceFault, SinkFault, DiskFault, NotAStore, Memory, TooMuchInput}

-- the exit status
abbrev pub code_of : Status → ℕ
code_of Done = 0
code_of Words = 1
code_of SourceFault = 2
code_of SinkFault = 3
code_of DiskFault = 4
code_of NotAStore = 5
code_of Memory = 6
code_of TooMuchInput = 8

-- an event that touches the disk
abbrev pub IsBegun : Option Event → Type 0
IsBegun None = ⊥
IsBegun (Some (Boot boot)) = Unit {0}
IsBegun (Some (Line command now heard)) = Unit {0}
IsBegun (Some (Unread fault)) = ⊥

-- How a line may end a session: for want of memory, by the sink, or by the disk, and then the line
-- was begun.
abbrev pub IsLineEnd : Status → Option Event → Type 0
IsLineEnd Memory begun = begun ≡ None
IsLineEnd SinkFault begun = begun ≡ None
IsLineEnd DiskFault begun = IsBegun begun
IsLineEnd _ begun = ⊥

-- how a session that was opened may end
abbrev pub IsSessionEnd : Status → Option Event → Type 0
IsSessionEnd Done begun = begun ≡ None
IsSessionEnd Memory begun = begun ≡ None
IsSessionEnd SourceFault begun = begun ≡ None
IsSessionEnd SinkFault begun = begun ≡ None
IsSessionEnd TooMuchInput begun = begun ≡ None
IsSessionEnd DiskFault begun = IsBegun begun
IsSessionEnd Words begun = ⊥
IsSessionEnd NotAStore begun = ⊥

-- what a part of a session ends with: it goes on, or it stops
abbrev pub PartOutcome : Type 0
PartOutcome = Result (Unit {0}) Status

-- the status with which a session ends
abbrev pub end_status : PartOutcome → Status
end_status (Ok _) = Done
end_status (Err status) = status
