-- Each line of the machine has an answer beside open jobs.
use Rattle.std.proofs.Common.{◌≡◌, ◌≢◌, ◌∙◌, inl, inr, refl, sym, subst, ℕ, List, [], Result, Ok, Err}
use Rattle.small_types.specs.declared.target.Target.{Target}
use Rattle.addresses.specs.declared.fault.UrlFault.{UrlFault}
use Rattle.addresses.specs.declared.fault.UrlFault.TheVariants as fault
use Rattle.machine.specs.declared.command.Command.{Command}
use Rattle.machine.specs.declared.command.Command.TheVariants.{At, Require, Install, Check, Skip, Rollback, Launch, Read, Local, Put, Remove, Group, Finish, Clean, Show}
use Rattle.machine.specs.declared.command.Command.TheVariants as asks
use Rattle.machine.specs.declared.reply.Reply.TheVariants as says
use Rattle.machine.specs.Laws.{IsAnswerable, IsAnswered}
use Rattle.machine.specs.SoundSession.{SoundSession}
use Rattle.machine.specs.Store.{Session}
use Rattle.machine.proofs.EachRow.{facts}
use Rattle.machine.proofs.OtherReplies.{all_links_is_other, bad_url_is_other}
use Rattle.job_machine.specs.JobLaws.{IsAnsweredBeside}
use Rattle.job_machine.proofs.GroupAnswers.{group_answered}
use Rattle.job_machine.proofs.JobAnswers.{IsRead, address_read}

not_http_is_other : says.NotHttp ≢ says.Memory
not_http_is_other e = cc

scheme_is_no_bad : (scheme : List ℕ)
    → ◌≡◌ {A = Result Target UrlFault} (Err (fault.NotHttp scheme)) (Err fault.BadUrl) → ⊥
scheme_is_no_bad scheme e = cc

target_is_no_bad : (target : Target)
    → ◌≡◌ {A = Result Target UrlFault} (Ok target) (Err fault.BadUrl) → ⊥
target_is_no_bad target e = cc

target_has_scheme : (target : Target) (scheme : List ℕ)
    → ◌≡◌ {A = Result Target UrlFault} (Ok target) (Err (fault.NotHttp scheme)) → ⊥
target_has_scheme target scheme e = cc

-- an install that hears nothing
unheard_beside : (now : ℕ) (old : Session) (url : List ℕ) → IsRead url
    → IsAnsweredBeside now [] old (Install url)
unheard_beside now old url (inl bad) = record {
  reply = says.BadUrl;
  new = old;
  answers = inl (inr (tt, inl ((bad, refl), refl)));
  other = bad_url_is_other;
}
unheard_beside now old url (inr (inl other)) = record {
  reply = says.NotHttp;
  new = old;
  answers = inl (inr (
    tt,
    inr (
      (λ bad. scheme_is_no_bad other.0 (sym other.1 ∙ bad)),
      inl ((other.0, other.1, refl), refl),
    ),
  ));
  other = not_http_is_other;
}
unheard_beside now old url (inr (inr read)) = record {
  reply = says.AllLinks read.0 [];
  new = old;
  answers = inl (inr (
    tt,
    inr (
      (λ bad. target_is_no_bad read.0 (sym read.1 ∙ bad)),
      inr (
        (λ scheme other. target_has_scheme read.0 scheme (sym read.1 ∙ other)),
        inl ((read.0, [], (read.1, refl), refl), refl),
      ),
    ),
  ));
  other = all_links_is_other read.0 [];
}

-- a line that is answered as ever
module _ (now : ℕ) (heard : List (List ℕ)) (old : Session) (sound : SoundSession old) where
  ever : (command : Command) → IsAnswerable command heard old.store
      → IsAnswered now heard old command
  ever command may = (facts now heard command).answered old sound.store.valid may

  pub answered_beside : (command : Command) → IsAnswerable command heard old.store
      → IsAnsweredBeside now heard old command
  answered_beside (At next) may = let of = ever (At next) may in record {
    reply = of.reply;
    new = of.new;
    answers = of.answers;
    other = of.other;
  }
  answered_beside (Require key version) may = let of = ever (Require key version) may in record {
    reply = of.reply;
    new = of.new;
    answers = of.answers;
    other = of.other;
  }
  answered_beside (Install url) may =
      subst (λ (texts : List (List ℕ)). IsAnsweredBeside now texts old (Install url)) (sym may)
      (unheard_beside now old url (address_read url))
  answered_beside (Check key) may = let of = ever (Check key) may in record {
    reply = of.reply;
    new = of.new;
    answers = of.answers;
    other = of.other;
  }
  answered_beside (Skip key) may = let of = ever (Skip key) may in record {
    reply = of.reply;
    new = of.new;
    answers = of.answers;
    other = of.other;
  }
  answered_beside (Rollback key) may = let of = ever (Rollback key) may in record {
    reply = of.reply;
    new = of.new;
    answers = of.answers;
    other = of.other;
  }
  answered_beside (Launch key) may = let of = ever (Launch key) may in record {
    reply = of.reply;
    new = of.new;
    answers = of.answers;
    other = of.other;
  }
  answered_beside (Read lease name from count) may = let of = ever (Read lease name from count) may in record {
    reply = of.reply;
    new = of.new;
    answers = of.answers;
    other = of.other;
  }
  answered_beside (Local lease name from count) may = let of = ever (Local lease name from count) may in record {
    reply = of.reply;
    new = of.new;
    answers = of.answers;
    other = of.other;
  }
  answered_beside (Put lease name bytes) may = let of = ever (Put lease name bytes) may in record {
    reply = of.reply;
    new = of.new;
    answers = of.answers;
    other = of.other;
  }
  answered_beside (Remove lease name) may = let of = ever (Remove lease name) may in record {
    reply = of.reply;
    new = of.new;
    answers = of.answers;
    other = of.other;
  }
  answered_beside (Group lease group) may = group_answered now heard lease group old sound
  answered_beside (Finish lease) may = let of = ever (Finish lease) may in record {
    reply = of.reply;
    new = of.new;
    answers = of.answers;
    other = of.other;
  }
  answered_beside Clean may = let of = ever Clean may in record {
    reply = of.reply;
    new = of.new;
    answers = of.answers;
    other = of.other;
  }
  answered_beside asks.List may = let of = ever asks.List may in record {
    reply = of.reply;
    new = of.new;
    answers = of.answers;
    other = of.other;
  }
  answered_beside (Show key) may = let of = ever (Show key) may in record {
    reply = of.reply;
    new = of.new;
    answers = of.answers;
    other = of.other;
  }
