-- The turn in which a run sealed a drive.
use Rattle.std.proofs.Common.{◌≡◌, ◌≢◌, ℕ, Bool, refl, sym, ap, ◌∙◌, subst}
use Rattle.std.specs.Prelude.{Ok}
use Rattle.drive_journal.specs.declared.record.Gate.{Gate}
use Rattle.drive_journal.specs.declared.record.Rec.{Rec}
use Rattle.std.specs.Prelude.{List}
use Rattle.run_state.specs.declared.phase.Phase.{Phase}
use Rattle.run_state.specs.declared.phase.Phase.TheVariants.{Seals, Ended}
use Rattle.run_state.specs.Acts.{SealedAloud}
use Rattle.run_state.specs.Rules.{IsRun}
use Rattle.run_state.specs.Runs.{Point, Alone, still, turned}
use Rattle.run_state.specs.State.{Ordered, Begun, Found, Sealed, At, drive_at}
use Rattle.run_state.specs.Turn.{Acted, Turned}
use Rattle.run_final.proofs.Turning.{Did, kept, lost, begun, recorded, sealed, found, turn_did}

pub record SealTurn (o : Ordered) (a b : Point) (d : ℕ) : Type 0 where
  pub point : Point
  pub next : Point
  pub front : Alone o a point
  pub turn : Turned o point.at next.at point.pool next.pool point.world next.world
  pub phase : point.at.phase ≡ Seals d
  pub recs : List Rec
  pub gate : Gate
  pub part : Bool
  pub stood : drive_at point.at.drives.each d ≡ Begun recs gate part
  pub act : SealedAloud o d recs point.at.drives next.at point.world next.world
  pub well : act.came ≡ Ok tt
  pub now : drive_at next.at.drives.each d ≡ Sealed
  pub back : Alone o next b

-- a turn more
turn_more : (o : Ordered) (a x b : Point) (d : ℕ) → SealTurn o a x d → Turned o x.at b.at x.pool b.pool x.world b.world → SealTurn o a b d
turn_more o a x b d t more = record {
  point = t.point;
  next = t.next;
  front = t.front;
  turn = t.turn;
  phase = t.phase;
  recs = t.recs;
  gate = t.gate;
  part = t.part;
  stood = t.stood;
  act = t.act;
  well = t.well;
  now = t.now;
  back = turned t.back more;
}

module _ (o : Ordered) (a : Point) (d : ℕ) (rules : (b : Point) → Alone o a b → IsRun o b.at) (unsealed : drive_at a.at.drives.each d ≢ Sealed) (unfound : (recs : List Rec) → drive_at a.at.drives.each d ≢ Found recs) where
  never_found : (b : Point) → Alone o a b → (recs : List Rec) → drive_at b.at.drives.each d ≢ Found recs
  never_found b still recs is = unfound recs is
  never_found b (turned {b = x} so_far t) recs is = by (never_found x so_far recs) (turn_did o d x b (rules x so_far).plan t)
    where
      by : drive_at x.at.drives.each d ≢ Found recs → Did o d x b → ⊥
      by before (kept same keeps) = before (sym same ∙ is)
      by before (lost gone) = absurd (cc (sym gone ∙ is))
      by before (begun fresh act well now) = absurd (cc (sym now ∙ is))
      by before (recorded rec j next phase due act well now) = absurd (cc (sym now ∙ is))
      by before (sealed those gate part phase at act well now) = absurd (cc (sym now ∙ is))
      by before (found those at now) = absurd (cc (sym now ∙ is))

  pub seal_turn : (b : Point) → Alone o a b → drive_at b.at.drives.each d ≡ Sealed → SealTurn o a b d
  seal_turn b still is = absurd (unsealed is)
  seal_turn b (turned {b = x} so_far t) is = by (λ sealed_there. seal_turn x so_far sealed_there) (turn_did o d x b (rules x so_far).plan t)
    where
      by : (drive_at x.at.drives.each d ≡ Sealed → SealTurn o a x d) → Did o d x b → SealTurn o a b d
      by before (kept same keeps) = turn_more o a x b d (before (sym same ∙ is)) t
      by before (lost gone) = absurd (cc (sym gone ∙ is))
      by before (begun fresh act well now) = absurd (cc (sym now ∙ is))
      by before (recorded rec j next phase due act well now) = absurd (cc (sym now ∙ is))
      by before (sealed recs gate part phase at act well now) = record {
        point = x;
        next = b;
        front = so_far;
        turn = t;
        phase = phase;
        recs = recs;
        gate = gate;
        part = part;
        stood = at;
        act = act;
        well = well;
        now = now;
        back = still;
      }
      by before (found recs at now) = absurd (never_found x so_far recs at)

-- a run that has ended stays as it is
pub ended_stays : (o : Ordered) (a b : Point) → a.at.phase ≡ Ended → Alone o a b → b.at ≡ a.at
ended_stays o a b is still = refl
ended_stays o a b is (turned {b = x} so_far t) =
    let same = ended_stays o a x is so_far in
    let idle = subst (λ (k : Phase). Acted o k x.at b.at x.pool b.pool x.world b.world) (ap (λ (y : At). y.phase) same ∙ is) t in
    idle.0 ∙ same
