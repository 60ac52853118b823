-- Which calls of an act on one drive, and of a turn of a copy, failed, by what came of it.
use Rattle.std.proofs.Common.{inl, inr, ℕ, ◌+◌, ◌*◌, Bool, true, false, List, [], ◌∷◌, ◌++◌, length, refl, sym, subst}
use Rattle.std.specs.Prelude.{Option, Some, None, Result, Ok, Err}
use Rattle.bay_core.specs.declared.event.Event.{Event}
use Rattle.bay_core.specs.Looks.{read_call, piece, Tiles}
use Rattle.bay_core.specs.Paths.{new_path, part_path}
use Rattle.bay_core.specs.Replay.{Source, Drive}
use Rattle.bay_core.specs.Went.{Ran, Then, write_call, sync_call}
use Rattle.digest_set.specs.declared.triple.Triple.{Triple}
use Rattle.drive_journal.specs.declared.record.Gate.{Gate}
use Rattle.drive_journal.specs.declared.record.Rec.{Rec}
use Rattle.drive_journal.specs.Calls.{place_calls, open_calls}
use Rattle.drive_journal.specs.Record.{closed_record}
use Rattle.fan_core.specs.declared.act.Act.{Act}
use Rattle.fan_core.specs.declared.act.Act.TheVariants.{Read, Write, Finished}
use Rattle.fan_core.specs.Flags.{has}
use Rattle.fan_copier.specs.declared.turn.Turn.{Turn}
use Rattle.fan_copier.specs.declared.turn.Turn.TheVariants.{Going, Dropped, Copied, SourceFailed, Changed}
use Rattle.fan_copier.specs.Reads.{OnCard}
use Rattle.fan_copier.specs.Standing.{Standing, block_len, block_of}
use Rattle.fan_copier.specs.Turning.{Doing, EmptyPiece, Acting, StandsAfter, ActCalls, TurnCalls}
use Rattle.read_back.specs.declared.back.ReadBackError.{ReadBackError}
use Rattle.read_back.specs.declared.back.ReadBackError.TheVariants.{DriveFailed as BackFailed, Absent as BackAbsent, Length as BackLength, Differs}
use Rattle.read_back.specs.Back.{NextFailed, PiecesThen, PiecesFailed, ReadBackCalls}
use Rattle.recording.specs.Filing.{BackCalls, Settles, RecordCalls}
use Rattle.seal_step.specs.declared.error.SealError.{SealError}
use Rattle.seal_step.specs.declared.error.SealError.TheVariants.{DriveFailed as SealFailed, Absent as ListAbsent, Byte as ListByte, Length as ListLength}
use Rattle.seal_step.specs.Calls.{Drafts, SealCalls}
use Rattle.seal_step.specs.Parts.{joined, drafting, naming}
use Rattle.seal_step.specs.Reading.{BackCalls as ListCalls}
use Rattle.run_calls.proofs.Failing.{IsAnswered, NoneFails, LastFails, none_then, last_then, ran_none, ran_last, place_on, drafts_on, naming_on, sync_on, write_on, tiles_none, ends_none, cut_last, put_none, put_last}

-- ---- reads of a file that is read back

read_answered : (d : ℕ) (path : List ℕ) (at want : ℕ) (got : Option (List ℕ)) → IsAnswered (read_call d path at want got)
read_answered d path at want None = (refl, refl)
read_answered d path at want (Some bytes) = (refl, refl)

reads_none : (d : ℕ) (path : List ℕ) (at : ℕ) (L : List Event) → Tiles d path at L → NoneFails L
unfolding Tiles
reads_none d path at [] t = tt
reads_none d path at (e ∷ L) ((want, got, is), more) = (subst IsAnswered (sym is) (read_answered d path at want got), reads_none d path (at + length (piece e)) L more)

module _ (d : ℕ) (path : List ℕ) (size : ℕ) (bytes : List ℕ) (L : List Event) where
  pieces_none : (want : ℕ) (got : Option (List ℕ)) → PiecesThen d path size bytes want got L → NoneFails L
  pieces_none want got p = subst NoneFails (sym p.is) (none_then p.first (read_call d path (length bytes) want got ∷ []) (reads_none d path 0 p.first p.pieces.tiles) (read_answered d path (length bytes) want got, tt))

  pieces_last : PiecesFailed d path size bytes L → LastFails (Drive d) L
  pieces_last p = by p.failed
    where
      behind : LastFails (Drive d) p.last → LastFails (Drive d) L
      behind last = subst (LastFails (Drive d)) (sym p.is) (last_then (Drive d) p.first p.last (reads_none d path 0 p.first p.pieces.tiles) last)

      by : NextFailed d path size (length bytes) p.last → LastFails (Drive d) L
      by (inl none) = behind (subst (LastFails (Drive d)) (sym none) tt)
      by (inr (want, next, is)) = behind (subst (LastFails (Drive d)) (sym is) (refl, inl (refl, refl)))

-- ---- a file is recorded

-- which calls failed, by what came of a recording
abbrev pub RecordFails : ℕ → Result Gate ReadBackError → List Event → Type 0
RecordFails d (Err BackFailed) L = LastFails (Drive d) L
RecordFails d _ L = NoneFails L

abbrev BackFails : ℕ → Result Unit ReadBackError → List Event → Type 0
BackFails d (Err BackFailed) L = LastFails (Drive d) L
BackFails d _ L = NoneFails L

back_fails : (d : ℕ) (path : List ℕ) (size : ℕ) (t : Triple) (r : Result Unit ReadBackError) (bytes : List ℕ) (L : List Event) → ReadBackCalls d path size t r bytes L → BackFails d r L
back_fails d path size t (Ok u) bytes L calls = pieces_none d path size bytes L 1 (Some []) calls.0.1
back_fails d path size t (Err BackFailed) bytes L calls = pieces_last d path size bytes L calls
back_fails d path size t (Err BackAbsent) bytes L (want, p) = pieces_none d path size bytes L want None p
back_fails d path size t (Err (BackLength recorded read)) bytes L (same, inl (fewer, long, want, p)) = pieces_none d path size bytes L want (Some []) p
back_fails d path size t (Err (BackLength recorded read)) bytes L (same, inr (more, long, byte, p)) = pieces_none d path size bytes L 1 (Some (byte ∷ [])) p
back_fails d path size t (Err (Differs recorded read)) bytes L calls = pieces_none d path size bytes L 1 (Some []) calls.0.1

module _ (d : ℕ) (rec : Rec) where
  settled_none : (P : List Event → Type 0) (L : List Event) → ((K : List Event) → P K → NoneFails K) → Settles d P L → NoneFails L
  settled_none P L so t = subst NoneFails (sym t.is) (none_then t.first t.second (subst NoneFails (sym t.here) ((refl, refl), tt)) (so t.second t.there))

  settled_last : (P : List Event → Type 0) (L : List Event) → ((K : List Event) → P K → LastFails (Drive d) K) → Settles d P L → LastFails (Drive d) L
  settled_last P L so t = subst (LastFails (Drive d)) (sym t.is) (last_then (Drive d) t.first t.second (subst NoneFails (sym t.here) ((refl, refl), tt)) (so t.second t.there))

  read_fails : (r : Result Unit ReadBackError) (L : List Event) → BackCalls d rec r L → BackFails d r L
  read_fails r L (bytes, calls) = back_fails d part_path rec.size rec.triple r bytes L calls

  module _ (gate : ℕ) (path : List ℕ) where
    abbrev placing : List (Bool → Event)
    placing = place_calls d gate path (closed_record rec) ++ open_calls d gate

    placed_none : (K : List Event) → Then (BackCalls d rec (Ok tt)) (Ran placing true) K → NoneFails K
    placed_none K t = subst NoneFails (sym t.is) (none_then t.first t.second (read_fails (Ok tt) t.first t.here) (ran_none (Drive d) placing t.second (place_on d gate path (closed_record rec)) t.there))

    placed_last : (K : List Event) → Then (BackCalls d rec (Ok tt)) (Ran placing false) K → LastFails (Drive d) K
    placed_last K t = subst (LastFails (Drive d)) (sym t.is) (last_then (Drive d) t.first t.second (read_fails (Ok tt) t.first t.here) (ran_last (Drive d) placing t.second (place_on d gate path (closed_record rec)) t.there))

    pub record_fails : (came : Result Gate ReadBackError) (L : List Event) → RecordCalls d gate path rec came L → RecordFails d came L
    record_fails (Ok next) L t = settled_none (Then (BackCalls d rec (Ok tt)) (Ran placing true)) L placed_none t
    record_fails (Err BackFailed) L (inl ran) = ran_last (Drive d) (sync_call d ∷ []) L (sync_on d) ran
    record_fails (Err BackFailed) L (inr (inl t)) = settled_last (BackCalls d rec (Err BackFailed)) L (read_fails (Err BackFailed)) t
    record_fails (Err BackFailed) L (inr (inr t)) = settled_last (Then (BackCalls d rec (Ok tt)) (Ran placing false)) L placed_last t
    record_fails (Err BackAbsent) L t = settled_none (BackCalls d rec (Err BackAbsent)) L (read_fails (Err BackAbsent)) t
    record_fails (Err (BackLength x y)) L t = settled_none (BackCalls d rec (Err (BackLength x y))) L (read_fails (Err (BackLength x y))) t
    record_fails (Err (Differs x y)) L t = settled_none (BackCalls d rec (Err (Differs x y))) L (read_fails (Err (Differs x y))) t

-- ---- a drive is sealed

-- which calls failed, by what came of a sealing
abbrev pub SealFails : ℕ → Result Unit SealError → List Event → Type 0
SealFails d (Err SealFailed) L = LastFails (Drive d) L
SealFails d _ L = NoneFails L

module _ (d : ℕ) (list : List ℕ) (parts : List (List ℕ)) where
  list_fails : (r : Result Unit SealError) (L : List Event) → ListCalls d (joined parts) r L → SealFails d r L
  list_fails (Ok u) L calls = pieces_none d new_path (length (joined parts)) (joined parts) L 1 (Some []) calls.1
  list_fails (Err SealFailed) L (front, is, p) = pieces_last d new_path (length (joined parts)) front L p
  list_fails (Err ListAbsent) L (front, is, (want, p)) = pieces_none d new_path (length (joined parts)) front L want None p
  list_fails (Err (ListLength written read)) L (same, (front, is, inl (fewer, long, want, p))) = pieces_none d new_path (length (joined parts)) front L want (Some []) p
  list_fails (Err (ListLength written read)) L (same, (front, is, inr (more, long, byte, p))) = pieces_none d new_path (length (joined parts)) front L 1 (Some (byte ∷ [])) p
  list_fails (Err (ListByte at written read)) L (front, is, (want, bytes, other, p)) = pieces_none d new_path (length (joined parts)) front L want (Some bytes) p

  drafted_none : (P : List Event → Type 0) (L : List Event) → ((K : List Event) → P K → NoneFails K) → Drafts d parts P L → NoneFails L
  drafted_none P L so t = subst NoneFails (sym t.is) (none_then t.first t.second (ran_none (Drive d) (drafting d parts) t.first (drafts_on d parts) t.here) (so t.second t.there))

  drafted_last : (P : List Event → Type 0) (L : List Event) → ((K : List Event) → P K → LastFails (Drive d) K) → Drafts d parts P L → LastFails (Drive d) L
  drafted_last P L so t = subst (LastFails (Drive d)) (sym t.is) (last_then (Drive d) t.first t.second (ran_none (Drive d) (drafting d parts) t.first (drafts_on d parts) t.here) (so t.second t.there))

  named_none : (K : List Event) → Then (ListCalls d (joined parts) (Ok tt)) (Ran (naming d list) true) K → NoneFails K
  named_none K t = subst NoneFails (sym t.is) (none_then t.first t.second (list_fails (Ok tt) t.first t.here) (ran_none (Drive d) (naming d list) t.second (naming_on d list) t.there))

  named_last : (K : List Event) → Then (ListCalls d (joined parts) (Ok tt)) (Ran (naming d list) false) K → LastFails (Drive d) K
  named_last K t = subst (LastFails (Drive d)) (sym t.is) (last_then (Drive d) t.first t.second (list_fails (Ok tt) t.first t.here) (ran_last (Drive d) (naming d list) t.second (naming_on d list) t.there))

  pub seal_fails : (came : Result Unit SealError) (L : List Event) → SealCalls d list parts came L → SealFails d came L
  seal_fails (Ok u) L t = drafted_none (Then (ListCalls d (joined parts) (Ok tt)) (Ran (naming d list) true)) L named_none t
  seal_fails (Err SealFailed) L (inl ran) = ran_last (Drive d) (drafting d parts) L (drafts_on d parts) ran
  seal_fails (Err SealFailed) L (inr (inl t)) = drafted_last (ListCalls d (joined parts) (Err SealFailed)) L (list_fails (Err SealFailed)) t
  seal_fails (Err SealFailed) L (inr (inr t)) = drafted_last (Then (ListCalls d (joined parts) (Ok tt)) (Ran (naming d list) false)) L named_last t
  seal_fails (Err ListAbsent) L t = drafted_none (ListCalls d (joined parts) (Err ListAbsent)) L (list_fails (Err ListAbsent)) t
  seal_fails (Err (ListLength x y)) L t = drafted_none (ListCalls d (joined parts) (Err (ListLength x y))) L (list_fails (Err (ListLength x y))) t
  seal_fails (Err (ListByte p x y)) L t = drafted_none (ListCalls d (joined parts) (Err (ListByte p x y))) L (list_fails (Err (ListByte p x y))) t

-- ---- a turn of a copy

-- which calls failed, by what came of a turn of a copy from card s
abbrev pub CopyFails : ℕ → Turn → List Event → Type 0
CopyFails s (Dropped d) L = LastFails (Drive d) L
CopyFails s SourceFailed L = LastFails (Source s) L
CopyFails s _ L = NoneFails L

behind_answered : (s : ℕ) (came : Turn) (A B : List Event) → NoneFails A → CopyFails s came B → CopyFails s came (A ++ B)
behind_answered s (Dropped d) A B a b = last_then (Drive d) A B a b
behind_answered s SourceFailed A B a b = last_then (Source s) A B a b
behind_answered s came A B a b = none_then A B a b

module _ (s : ℕ) (path : List ℕ) (size : ℕ) (at now : Standing) (bytes given : List ℕ) where
  act_fails : (p : ℕ) (act : Act) (came : Turn) (L : List Event) → StandsAfter size at now (Acting p act) came → ActCalls s path size at now bytes given act came L → CopyFails s came L
  act_fails p Read Going L stands calls = tiles_none (OnCard s path) (at.counts.read * 65536) L given calls.0
  act_fails p Read (Changed listed read) L stands calls = ends_none (OnCard s path) (at.counts.read * 65536) (block_len size at.counts.read) given L calls
  act_fails p Read SourceFailed L stands calls = cut_last (OnCard s path) (at.counts.read * 65536) (block_len size at.counts.read) L calls.1
  act_fails p (Write d k) Going L stands calls = put_none d (k * 65536) (block_of bytes k) L (has at.kept d) (has now.kept d) calls.1
  act_fails p (Write d k) (Dropped e) L stands calls = subst (λ (n : ℕ). LastFails (Drive n) L) (sym stands.0) (put_last d (k * 65536) (block_of bytes k) L (has at.kept d) (has now.kept d) calls.1)
  act_fails p Finished (Copied t) L stands calls = subst NoneFails (sym calls.1) ((refl, refl), tt)
  act_fails p Finished (Changed listed read) L stands calls = subst NoneFails (sym calls.0) ((refl, refl), tt)
  act_fails p Finished SourceFailed L stands (none, inl no_call) = subst (LastFails (Source s)) (sym no_call) tt
  act_fails p Finished SourceFailed L stands (none, inr one) = subst (LastFails (Source s)) (sym one) (refl, inl (refl, refl))
  act_fails p act came L stands calls = absurd stands

  pub copy_fails : (did : Doing) (came : Turn) (L : List Event) → StandsAfter size at now did came → TurnCalls s path size at now bytes given did came L → CopyFails s came L
  copy_fails (EmptyPiece d) Going L stands calls = ran_none (Drive d) (write_call d part_path 0 [] ∷ []) L (write_on d part_path 0 []) calls.1
  copy_fails (EmptyPiece d) (Dropped e) L stands calls = subst (λ (n : ℕ). LastFails (Drive n) L) (sym stands.0) (ran_last (Drive d) (write_call d part_path 0 [] ∷ []) L (write_on d part_path 0 []) calls.1)
  copy_fails (EmptyPiece d) came L stands calls = absurd stands
  copy_fails (Acting p act) came L stands t =
      subst (CopyFails s came) (sym t.is) (behind_answered s came t.first t.second (subst NoneFails (sym t.here) ((refl, refl), tt)) (act_fails p act came t.second stands t.there))
