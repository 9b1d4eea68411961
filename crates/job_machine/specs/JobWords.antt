-- Events of sessions with jobs, as a session makes them: their words keep their forms.
use Rattle.std.specs.Prelude.{◌≤◌}
use Rattle.small_types.specs.declared.limits.TheConstants.{NUMBER_LIMIT}
use Rattle.machine.specs.Words.{IsEvent, IsUrl}
use Rattle.job_machine.specs.declared.command.JobCommand.{JobCommand}
use Rattle.job_machine.specs.declared.command.JobCommand.TheVariants as asks
use Rattle.job_machine.specs.Sessions.{JobLine, MachineEvent, SessionEvent}

-- the words of a command have their forms
abbrev pub IsJobCommand : JobCommand → Type 0
IsJobCommand (asks.Begin url) = IsUrl url
IsJobCommand (asks.Step number) = number ≤ NUMBER_LIMIT
IsJobCommand (asks.Commit number) = number ≤ NUMBER_LIMIT
IsJobCommand (asks.Abandon number) = number ≤ NUMBER_LIMIT

-- numbers are at most 2 ^ 62, and the words of a command have their forms
abbrev pub IsSessionEvent : SessionEvent → Type 0
IsSessionEvent (MachineEvent event) = IsEvent event
IsSessionEvent (JobLine command now heard) = IsJobCommand command × (now ≤ NUMBER_LIMIT)
