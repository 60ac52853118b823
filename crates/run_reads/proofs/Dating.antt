-- The date of a record among the calls of a run.
use Rattle.std.proofs.Common.{◌≡◌, ℕ, true, false, cond, List, [], ◌∷◌, ◌++◌, refl, sym, ap, ◌∙◌, append_assoc}
use Rattle.std.specs.Prelude.{Some}
use Rattle.std.specs.List.{AllByRecursion}
use Rattle.bay_core.specs.declared.event.Event.{Event}
use Rattle.bay_core.specs.declared.event.Event.TheVariants.{SourceRead, Moment}
use Rattle.bay_core.specs.Replay.{Device, Source, Clock, device_of}
use Rattle.bay_core.specs.Went.{AllOn, IsCall}
use Rattle.copy_plan.specs.declared.file.PlannedFile.{PlannedFile}
use Rattle.copy_plan.proofs.Files.{AllByRecursion-append}
use Rattle.fan_copier.specs.Follows.{EndsAtSize}
use Rattle.run_state.specs.State.{Ordered}
use Rattle.run_reads.specs.Reads.{is_read, reads_of}
use Rattle.run_reads.specs.Backs.{IsDated, IsQuiet, IsDatedAtOnce}
use Rattle.run_reads.proofs.Cards.{reads_then}

-- ---- the last read of a file

no_end : (front : List Event) (e : Event) → [] ≡ front ++ e ∷ [] → ⊥
no_end [] e is = absurd (cc is)
no_end (x ∷ front) e is = absurd (cc is)

-- where the last of these reads stands among the calls: no such read is behind it
pub record LastRead (s : ℕ) (q : List ℕ) (e : Event) (L : List Event) : Type 0 where
  pub past : List Event
  pub since : List Event
  pub is : L ≡ past ++ e ∷ since
  pub unread : reads_of s q since ≡ []

further : (s : ℕ) (q : List ℕ) (e x : Event) (L : List Event) → LastRead s q e L → LastRead s q e (x ∷ L)
further s q e x L last = record { past = x ∷ last.past; since = last.since; is = ap (λ (l : List Event). x ∷ l) last.is; unread = last.unread }

pub last_read : (s : ℕ) (q : List ℕ) (e : Event) (L front : List Event) → reads_of s q L ≡ front ++ e ∷ [] → LastRead s q e L
last_read s q e [] front is = absurd (no_end front e is)
last_read s q e (x ∷ L) [] is = elim (is_read s q x) as (λ b. cond b (x ∷ reads_of s q L) (reads_of s q L) ≡ e ∷ [] → LastRead s q e (x ∷ L)) [
  | true ↦ λ same.
      let head : x ≡ e = cc same in
      let none : reads_of s q L ≡ [] = cc same in
      record { past = []; since = L; is = ap (λ (y : Event). y ∷ L) head; unread = none }
  | false ↦ λ same. further s q e x L (last_read s q e L [] same)
] is
last_read s q e (x ∷ L) (y ∷ front) is = elim (is_read s q x) as (λ b. cond b (x ∷ reads_of s q L) (reads_of s q L) ≡ y ∷ (front ++ e ∷ []) → LastRead s q e (x ∷ L)) [
  | true ↦ λ same.
      let rest : reads_of s q L ≡ front ++ e ∷ [] = cc same in
      further s q e x L (last_read s q e L front rest)
  | false ↦ λ same. further s q e x L (last_read s q e L (y ∷ front) same)
] is

-- ---- a moment behind the copy

module _ (o : Ordered) (f : PlannedFile) (seconds : ℕ) where
  -- the moment is asked behind calls among which the last read of the file ended its copy
  pub dated_next : (A B : List Event) → EndsAtSize o.source f.path f.size (reads_of o.source f.path A) → IsCall (Moment seconds) B → IsDated o f seconds (A ++ B)
  dated_next A B (front, last) call =
      let cut = last_read o.source f.path (SourceRead o.source f.path f.size 1 (Some [])) A front last in
      record {
        past = cut.past;
        between = cut.since;
        since = [];
        is = (λ k. cut.is k ++ call k) ∙ append_assoc cut.past (SourceRead o.source f.path f.size 1 (Some []) ∷ cut.since) (Moment seconds ∷ []);
        unread = reads_then o.source f.path cut.since (Moment seconds ∷ []) refl ∙ cut.unread;
      }

  -- more calls without a read of the file
  pub dated_more : (A B : List Event) → reads_of o.source f.path B ≡ [] → IsDated o f seconds A → IsDated o f seconds (A ++ B)
  dated_more A B none d =
      let regroup = append_assoc d.between (Moment seconds ∷ d.since) B in
      record {
        past = d.past;
        between = d.between;
        since = d.since ++ B;
        is = ap (λ (l : List Event). l ++ B) d.is ∙ append_assoc d.past (SourceRead o.source f.path f.size 1 (Some []) ∷ (d.between ++ Moment seconds ∷ d.since)) B
            ∙ ap (λ (l : List Event). d.past ++ SourceRead o.source f.path f.size 1 (Some []) ∷ l) regroup;
        unread = ap (λ (l : List Event). reads_of o.source f.path l) (sym regroup) ∙ reads_then o.source f.path (d.between ++ Moment seconds ∷ d.since) B none ∙ d.unread;
      }

  -- the moment is asked with the call behind that read
  pub at_once_next : (A B past : List Event) → A ≡ past ++ SourceRead o.source f.path f.size 1 (Some []) ∷ [] → IsCall (Moment seconds) B → IsDatedAtOnce o f seconds (A ++ B)
  at_once_next A B past is call = record {
    past = past;
    since = [];
    is = (λ k. is k ++ call k) ∙ append_assoc past (SourceRead o.source f.path f.size 1 (Some []) ∷ []) (Moment seconds ∷ []);
    quiet = tt;
  }

  -- more calls that ask for no moment, and read no card
  pub at_once_more : (A B : List Event) → AllByRecursion IsQuiet B → IsDatedAtOnce o f seconds A → IsDatedAtOnce o f seconds (A ++ B)
  at_once_more A B more d = record {
    past = d.past;
    since = d.since ++ B;
    is = ap (λ (l : List Event). l ++ B) d.is ∙ append_assoc d.past (SourceRead o.source f.path f.size 1 (Some []) ∷ (Moment seconds ∷ d.since)) B;
    quiet = AllByRecursion-append IsQuiet d.since B d.quiet more;
  }

-- ---- calls that are neither on the clock nor on a card

quiet_one : (On : Device → Type 0) → (On Clock → ⊥) → ((s : ℕ) → On (Source s) → ⊥) → (e : Event) → On (device_of e) → IsQuiet e
quiet_one On clock card (Moment seconds) on = clock on
quiet_one On clock card (SourceRead s path at want got) on = card s on
quiet_one On clock card e on = tt

pub quiet_off : (On : Device → Type 0) → (On Clock → ⊥) → ((s : ℕ) → On (Source s) → ⊥) → (L : List Event) → AllOn On L → AllByRecursion IsQuiet L
unfolding AllOn
quiet_off On clock card [] on = tt
quiet_off On clock card (e ∷ L) on = (quiet_one On clock card e on.0, quiet_off On clock card L on.1)
