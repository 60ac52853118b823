-- What a look came to is what the lower look says; a drive that failed is dropped aloud.
use Rattle.std.proofs.Common.{inl, inr, refl, sym, ◌∙◌, subst}
use Rattle.std.specs.Prelude.{Result}
use Rattle.drive_journal.specs.declared.looking.LookError.{LookError}
use Rattle.drive_journal.specs.Look.{LookFails}
use Rattle.fresh_opening.specs.declared.error.FreshError.{FreshError}
use Rattle.fresh_opening.specs.declared.looking.DriveSeen.{DriveSeen}
use Rattle.fresh_opening.specs.Looks.{LookGives}
use Rattle.fresh_opening.proofs.Finding.{bare_came, begun_came, dropped_came, faulty_came, unsaid_end, wanting_end}
use Rattle.fresh_opening.proofs.looking.look_aloud.Goals as goal
use Rattle.fresh_opening.proofs.looking.look_aloud.Goals.{in-Fresh, in-Begun}

pub returns-then-say_dropped : goal.returns-then-say_dropped
returns-then-say_dropped g c =
    dropped_came c.args.d (subst (λ (e : LookError). LookFails c.args.d e (g.B.Bay.world c.args.bay.now) (g.B.Bay.world c.look.new.bay)) c.in-Err-DriveFailed.field-0-is c.in-Err-DriveFailed.ensures.looked) c.if-say_dropped.ensures

pub returns-in-Err-DriveFailed : goal.returns-in-Err-DriveFailed
returns-in-Err-DriveFailed g c =
    unsaid_end c.args.d (subst (λ (e : LookError). LookFails c.args.d e (g.B.Bay.world c.args.bay.now) (g.B.Bay.world c.look.new.bay)) c.in-Err-DriveFailed.field-0-is c.in-Err-DriveFailed.ensures.looked) c.if-say_dropped.ensures

pub returns-in-Err-NotAJournal : goal.returns-in-Err-NotAJournal
returns-in-Err-NotAJournal g c =
    (refl, faulty_came c.args.d c.in-Err-NotAJournal.at (subst (λ (e : LookError). LookFails c.args.d e (g.B.Bay.world c.args.bay.now) (g.B.Bay.world c.look.new.bay)) c.in-Err-NotAJournal.field-0-is c.in-Err-NotAJournal.ensures.looked) c.look.ensures.went)

pub returns-in-Err-Memory : goal.returns-in-Err-Memory
returns-in-Err-Memory g c =
    wanting_end c.args.d (subst (λ (e : LookError). LookFails c.args.d e (g.B.Bay.world c.args.bay.now) (g.B.Bay.world c.look.new.bay)) c.in-Err-Memory.field-0-is c.in-Err-Memory.ensures.looked)

pub returns : goal.returns
returns g c = elim c.match-state.branch [
  | in-Fresh w ↦
      subst (λ (r : Result DriveSeen FreshError). LookGives c.args.d r (g.B.Bay.world c.args.bay.now) (g.B.Bay.world c.look.new.bay)) (sym w.result-is)
      (bare_came c.args.d c.in-Ok.found.listing.items c.in-Ok.found.state w.in-Fresh.is c.in-Ok.ensures.looked c.look.ensures.went)
  | in-Begun w ↦
      subst (λ (r : Result DriveSeen FreshError). LookGives c.args.d r (g.B.Bay.world c.args.bay.now) (g.B.Bay.world c.look.new.bay)) (sym w.result-is)
      (refl, begun_came c.args.d c.in-Ok.found.listing.items c.in-Ok.found.state (λ fresh. elim w.in-Begun.is [ inl (plan, entries, gate, is) ↦ cc (sym fresh ∙ is) | inr (plan, entries, is) ↦ cc (sym fresh ∙ is) ]) c.in-Ok.ensures.looked c.look.ensures.went)
]
