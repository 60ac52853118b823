-- What one turn comes to.
use Rattle.std.proofs.Common.{◌≡◌, ◌≢◌, ◌⊎◌, inl, inr, ℕ, zero, suc, ◌+◌, ◌-◌, ◌*◌, ◌≤◌, ◌<◌, min, Bool, true, false, List, [], ◌∷◌, ◌++◌, length, take, drop, slice_index, slice_set, refl, sym, ◌∙◌, ap, subst, arith, append-nil, length-append, get_or-set_same, get_or-set_other}
use Rattle.std.proofs.lemmas.Bool.{cases_eq}
use Rattle.std.proofs.lemmas.List.{take_all, length-take-le}
use Rattle.std.specs.Prelude.{Option, Some, None, Ok, Err, is_some}
use Rattle.bay_core.specs.declared.event.Event.{Event}
use Rattle.bay_core.specs.declared.event.Event.TheVariants.{Pick}
use Rattle.bay_core.specs.declared.failed.Failed.{Failed}
use Rattle.bay_core.specs.Paths.{part_path}
use Rattle.bay_core.specs.Replay.{Device, Source, Drive, Picker}
use Rattle.bay_core.specs.Map.{Map, content}
use Rattle.bay_core.specs.World.{World, Steady}
use Rattle.bay_core.specs.Went.{Went, Called, Tried, Only, Then, IsCall, write_call}
use Rattle.bay_core.proofs.Runs.{went_none, went_then, went_such, went_on, rose_since}
use Rattle.block_pool.specs.Lent.{PoolState}
use Rattle.digest_set.specs.declared.triple.Triple.{Triple}
use Rattle.digest_set.specs.Triple.{triple}
use Rattle.fan_core.specs.declared.act.Act.{Act}
use Rattle.fan_core.specs.declared.act.Act.TheVariants.{Read, Write, Finished}
use Rattle.fan_core.specs.declared.counts.Counts.{Counts}
use Rattle.fan_core.specs.Flags.{has, lowest, count}
use Rattle.fan_core.specs.Next.{next_act, acts_left, waiting, IsWindow, CanRead, one_more_written}
use Rattle.fan_core.proofs.Rules.{none_lowest, lowest_has}
use Rattle.fan_core.proofs.Keeps.{waits, still_live, act_finished, left_read, left_write, left_drop}
use Rattle.fan_copier.specs.declared.copy.FileCopy.{FileCopy}
use Rattle.fan_copier.specs.declared.turn.Turn.{Turn}
use Rattle.fan_copier.specs.declared.turn.Turn.TheVariants.{Going, Dropped, Copied, SourceFailed, Changed}
use Rattle.fan_copier.specs.Reads.{AreAt, OnCard, EndsAt, CutAt, AreOn}
use Rattle.fan_copier.specs.Standing.{Standing, IsCopy, block_len, block_of}
use Rattle.fan_copier.specs.Copying.{standing, Has, HoldsBlocks, Parts, Copying, PartBegins}
use Rattle.fan_copier.specs.Turning.{Doing, EmptyPiece, Acting, doing, doing_next, AreCopyCalls, with_piece, with_read, dropped, PutStands, StandsAfter, WriteCalls, ReadCalls, PastCalls, TurnCalls, Touches, turns_left, CardHas, bytes_after, CameTo, Turned}
use Rattle.fan_copier.proofs.Leaving.{copy_calls_append, pick_copy, no_copy_calls}
use Rattle.fan_copier.specs.Ring.{Owns}
use Rattle.fan_copier.proofs.Reading.{steady_still}
use Rattle.fan_copier.proofs.Holding.{holds_has}
use Rattle.fan_copier.proofs.Growing.{block_within, waiting_within}
use Rattle.fan_copier.proofs.Parts.{quiet_elsewhere, off_source, off_picker, off_other, part_still, no_part_still, parts_still, part_put, part_empty, part_whole, parts_read}

-- after a block was brought to a drive
pub put_counts : (d : ℕ) (at now : Standing) → PutStands d at now → now.counts ≡ one_more_written at.counts d
put_counts d at now (inl is) = ap (λ (st : Standing). st.counts) is
put_counts d at now (inr is) = ap (λ (st : Standing). st.counts) is

pub put_pieces : (d : ℕ) (at now : Standing) → PutStands d at now → now.pieces ≡ at.pieces
put_pieces d at now (inl is) = ap (λ (st : Standing). st.pieces) is
put_pieces d at now (inr is) = ap (λ (st : Standing). st.pieces) is

wrote_at : (written : List ℕ) (d e v : ℕ) → d < length written → ((e ≡ d) × (slice_index (slice_set written d v) e ≡ v)) ⊎ ((e ≢ d) × (slice_index (slice_set written d v) e ≡ slice_index written e))
wrote_at written d e v in_range = elim (cases_eq e d) [
  | inl here ↦ inl (here, ap (slice_index (slice_set written d v)) here ∙ get_or-set_same written d v 0 in_range)
  | inr there ↦ inr (there, get_or-set_other written d e v 0 there)
]

-- the parts after a drive got its next block
pub parts_put : (size : ℕ) (at now : Standing) (ring : List (Option ℕ)) (d : ℕ) (xs : List ℕ) (keeps still : Bool) {w0 w1 : World} → IsWindow at.counts → IsCopy size at ring → lowest at.pieces ≡ None → has (waiting at.counts) d ≡ true → PutStands d at now
    → length xs ≡ min size (at.counts.read * 65536) → Called (Drive d) (WriteCalls keeps still true d (slice_index at.counts.written d * 65536) (block_of xs (slice_index at.counts.written d))) true w0 w1
    → (keeps ≡ true → still ≡ true → AreOn d part_path (slice_index at.counts.written d * 65536) (block_of xs (slice_index at.counts.written d)) w1) → Parts size at w0 xs → Parts size now w1 xs
parts_put size at now ring d xs keeps still {w0} {w1} w k none wait stands so_far one agree parts =
    let c = at.counts in
    let v = waits c w d wait in
    let in_range : d < length c.written = let e = v.eight in let n = w.eight_written in omega (arith, e, n) in
    let within = waiting_within size at ring w k d wait in
    let long : slice_index c.written d * 65536 ≤ length xs = (let u = v.below in omega (arith, so_far, within, u)) in
    let most : length xs ≤ size = omega (arith, so_far) in
    let counts = put_counts d at now stands in
    let live = ap (λ (j : Counts). j.live) counts in
    let written = ap (λ (j : Counts). j.written) counts in
    let pieces = put_pieces d at now stands in
    record {
      part = λ e there ready.
          let was : has c.live e ≡ true = ap (λ (l : List Bool). has l e) (sym live) ∙ there in
          let was_ready : has at.pieces e ≡ false = ap (λ (l : List Bool). has l e) (sym pieces) ∙ ready in
          subst (λ (ws : List ℕ). PartBegins e size w1 (take (slice_index ws e * 65536) xs)) (sym written) (elim (wrote_at c.written d e (slice_index c.written d + 1) in_range) [
            | inl here ↦ subst (λ n. PartBegins e size w1 (take (n * 65536) xs)) (sym here.1) (subst (λ x. PartBegins x size w1 (take ((slice_index c.written d + 1) * 65536) xs)) (sym here.0)
                (part_put d size (slice_index c.written d) xs keeps still long most one agree (parts.part d v.live (none_lowest at.pieces none d))))
            | inr away ↦ subst (λ n. PartBegins e size w1 (take (n * 65536) xs)) (sym away.1)
                (part_still e size _ (λ A on such. quiet_elsewhere e (Drive d) (off_other e d away.0) A on) one.went (parts.part e was was_ready))
          ]);
      no_part = λ e there. absurd (cc (sym there ∙ ap (λ (l : List Bool). has l e) pieces ∙ none_lowest at.pieces none e));
    }

-- the parts after a drive was dropped
pub parts_dropped : (size : ℕ) (at now : Standing) (d : ℕ) (xs : List ℕ) {P : List Event → Type 0} {w0 w1 : World} → now ≡ dropped at d → Went (Only (Drive d)) P w0 w1 → Parts size at w0 xs → Parts size now w1 xs
parts_dropped size at now d xs {P} {w0} {w1} is one parts = subst (λ (st : Standing). Parts size st w1 xs) (sym is) (record {
  part = λ e there ready.
      let was = still_live at.counts.live d e there in
      let away : e ≢ d = was.1 in
      part_still e size _ (λ A on such. quiet_elsewhere e (Drive d) (off_other e d away) A on) one (parts.part e was.0 (out_then at.pieces d e away ready));
  no_part = λ e there.
      let was = still_live at.pieces d e there in
      no_part_still e (λ A on such. quiet_elsewhere e (Drive d) (off_other e d was.1) A on) one (parts.no_part e was.0);
}) where
  out_then : (set : List Bool) (d e : ℕ) → e ≢ d → has (slice_set set d false) e ≡ false → has set e ≡ false
  out_then set d e away out = sym (get_or-set_other set d e false false away) ∙ out

-- the parts after the empty piece of a drive
pub parts_piece : (size : ℕ) (at now : Standing) (d : ℕ) (ring : List (Option ℕ)) (xs : List ℕ) {w0 w1 : World} → IsWindow at.counts → IsCopy size at ring → has at.pieces d ≡ true → now ≡ with_piece at d
    → Tried d (write_call d part_path 0 [] ∷ []) true w0 w1 → Parts size at w0 xs → Parts size now w1 xs
parts_piece size at now d ring xs {w0} {w1} w k ready is one parts = subst (λ (st : Standing). Parts size st w1 xs) (sym is) (record {
  part = λ e there out. elim (cases_eq e d) [
    | inl here ↦ subst (λ x. PartBegins x size w1 (take (slice_index at.counts.written x * 65536) xs)) (sym here)
        (subst (λ n. PartBegins d size w1 (take n xs)) (sym none_written) (subst (λ (l : List ℕ). PartBegins d size w1 l) (sym (take_zero xs)) (part_empty d size (parts.no_part d ready) one)))
    | inr away ↦ part_still e size _ (λ A on such. quiet_elsewhere e (Drive d) (off_other e d away) A on) one.went (parts.part e there (sym (get_or-set_other at.pieces d e false false away) ∙ out))
  ];
  no_part = λ e there.
      let was = still_live at.pieces d e there in
      no_part_still e (λ A on such. quiet_elsewhere e (Drive d) (off_other e d was.1) A on) one.went (parts.no_part e was.0);
}) where
  none_written : slice_index at.counts.written d * 65536 ≡ 0
  none_written = let b = w.behind d (k.pieces_live d ready) in let z = k.pieces_first d ready in omega (arith, b, z)

  take_zero : (l : List ℕ) → take 0 l ≡ []
  take_zero [] = refl
  take_zero (x ∷ l) = refl

-- the pick and the act after it
picked : (s p : ℕ) (live : List Bool) (x : Device) {A : List Event → Type 0} {w0 w1 w2 : World} → Called Picker (IsCall (Pick p)) true w0 w1 → Touches s live x → Went (Only x) A w1 w2 → Went (Touches s live) (Then (IsCall (Pick p)) A) w0 w2
picked s p live x one on two = went_then (went_on (λ y is. inr (inl is)) one.went) (went_on (λ y is. subst (Touches s live) (sym is) on) two)

-- no bytes are those of any file anywhere
pub at_none : (file : List ℕ) (at : ℕ) → AreAt file at []
at_none file at = sym (zero_of (drop at file)) where
  zero_of : (l : List ℕ) → take 0 l ≡ []
  zero_of [] = refl
  zero_of (x ∷ l) = refl

-- no bytes
abbrev pub nothing : List ℕ
nothing = []

-- an act in which the card gives nothing
none_given : {P Q : List Event → Type 0} {L : List Event} → Then P Q L → Then P (λ K. (nothing ≡ []) × Q K) L
none_given t = record { first = t.first; second = t.second; is = t.is; here = t.here; there = (refl, t.there) }

-- the calls of a pick and the act after it
pub touched : (s : ℕ) (path : List ℕ) (p : ℕ) (live : List Bool) (x : Device) {A : List Event → Type 0} {w0 w1 w2 : World} → ((L : List Event) → A L → AreCopyCalls s path L) → Called Picker (IsCall (Pick p)) true w0 w1 → Touches s live x → Went (Only x) A w1 w2
    → Went (Touches s live) (AreCopyCalls s path) w0 w2
touched s path p live x so one on two = went_such (λ L t. subst (λ K. AreCopyCalls s path K) (sym t.is) (copy_calls_append s path t.first t.second (subst (λ K. AreCopyCalls s path K) (sym t.here) (pick_copy s path p)) (so t.second t.there))) (picked s p live x one on two)

-- no call
pub untouched : (s : ℕ) (path : List ℕ) (live : List Bool) (w : World) → Went (Touches s live) (AreCopyCalls s path) w w
untouched s path live w = went_such (λ L none. subst (λ K. AreCopyCalls s path K) (sym none) (no_copy_calls s path)) (went_none (Touches s live) w)

count_less : (ds : List Bool) (d : ℕ) → has ds d ≡ true → count (slice_set ds d false) + 1 ≡ count ds
count_less [] d there = absurd (cc there)
count_less (true ∷ ds) zero there = refl
count_less (false ∷ ds) zero there = absurd (cc there)
count_less (true ∷ ds) (suc d) there = ap (λ n. n + 1) (count_less ds d there)
count_less (false ∷ ds) (suc d) there = count_less ds d there

count_most : (ds : List Bool) (d : ℕ) → count (slice_set ds d false) ≤ count ds
count_most [] d = omega arith
count_most (true ∷ ds) zero = omega arith
count_most (false ∷ ds) zero = omega arith
count_most (true ∷ ds) (suc d) = let rest = count_most ds d in omega (arith, rest)
count_most (false ∷ ds) (suc d) = let rest = count_most ds d in omega (arith, rest)

-- what is done, where no empty piece is left
acting : (at : Standing) (p : ℕ) (act : Act) → lowest at.pieces ≡ None → next_act at.counts p ≡ act → doing at p ≡ Acting p act
acting at p act none is = ap (λ o. doing_next o at.counts p) none ∙ ap (Acting p) is

module _ (path : List ℕ) (old new : FileCopy) (after : PoolState) (xs : List ℕ) (p : ℕ) where
  -- a turn, by what is done in it
  turned : (given : List ℕ) (did : Doing) (r : Turn) {w0 w1 : World} → doing (standing old) p ≡ did → StandsAfter old.size (standing old) (standing new) did r
      → Went (Touches old.source old.window.counts.live) (TurnCalls old.source path old.size (standing old) (standing new) xs given did r) w0 w1 → CameTo old new after w0 w1 xs given r
      → HoldsBlocks new after (bytes_after xs given r) → ((m : Map) → Steady w0 old.source m → CardHas (content m path) old.size xs given r) → Turned path old new after w0 w1 xs r
  turned given did r {w0} {w1} is stands calls came holds card = record {
    pick = p;
    given = given;
    stands = subst (λ x. StandsAfter old.size (standing old) (standing new) x r) (sym is) stands;
    calls = subst (λ x. Went (Touches old.source old.window.counts.live) (TurnCalls old.source path old.size (standing old) (standing new) xs given x r) w0 w1) (sym is) calls;
    came = came;
    holds = holds;
    card = card;
  }

  module _ (none : lowest old.pieces ≡ None) where
    full : old.window.counts.read < old.window.counts.blocks → old.window.counts.read * 65536 < old.size
    full more = block_within old.size old.window.counts.read (let n = old.keeps.blocks in omega (arith, more, n))

    pub turn_read : (block : List ℕ) {w0 wp w1 : World} {before : PoolState} → next_act old.window.counts p ≡ Read → CanRead old.window.counts → Called Picker (IsCall (Pick p)) true w0 wp
        → Called (Source old.source) (ReadCalls old.source path (old.window.counts.read * 65536) block (Ok None)) true wp w1 → length block ≡ block_len old.size old.window.counts.read
        → new.size ≡ old.size → standing new ≡ with_read (standing old) → Copying old before w0 xs → Has new after (xs ++ block) → Owns new.ring.slots after → ((m : Map) → Steady wp old.source m → AreAt (content m path) (old.window.counts.read * 65536) block) → Turned path old new after w0 w1 xs Going
    turn_read block {w0} {wp} {w1} {before} is can one two len size stands copying had owns card = turned block (Acting p Read) Going (acting (standing old) p Read none is) stands
        (went_such (λ L t. record { first = t.first; second = t.second; is = t.is; here = t.here; there = (t.there, len) }) (picked old.source p old.window.counts.live (Source old.source) one (inl refl) two.went))
        (record {
          has = had;
          parts = subst (λ n. Parts n (standing new) w1 (xs ++ block)) (sym size) (subst (λ (st : Standing). Parts old.size st w1 (xs ++ block)) (sym stands)
              (parts_read old.size (standing old) w1 xs block old.window.keeps (let h = copying.has.so_far in let f = full can.more in omega (arith, h, f))
              (parts_still old.size (standing old) xs (λ d A on such. quiet_elsewhere d (Source old.source) (off_source old.source d) A on) two.went
              (parts_still old.size (standing old) xs (λ d A on such. quiet_elsewhere d Picker (off_picker d) A on) one.went copying.parts))));
        })
        (holds_has new after (xs ++ block) owns had)
        (λ m steady. subst (λ n. AreAt (content m path) n block) (let f = full can.more in let h = copying.has.so_far in omega (arith, f, h)) (card m (steady_still old.source m one.went steady)))

    pub turn_ended : (block : List ℕ) (listed n : ℕ) {w0 wp w1 : World} {before : PoolState} → next_act old.window.counts p ≡ Read → CanRead old.window.counts → Called Picker (IsCall (Pick p)) true w0 wp
        → Called (Source old.source) (ReadCalls old.source path (old.window.counts.read * 65536) block (Ok (Some n))) true wp w1 → length block ≡ block_len old.size old.window.counts.read
        → old.window.counts.read * 65536 ≤ n → n < old.window.counts.read * 65536 + block_len old.size old.window.counts.read → listed ≡ old.size → standing new ≡ standing old → Copying old before w0 xs
        → HoldsBlocks new after xs → Turned path old new after w0 w1 xs (Changed listed n)
    turn_ended block listed n {w0} {wp} {w1} {before} is can one two len least most same stands copying holds =
        let f = full can.more in
        turned (take (n - old.window.counts.read * 65536) block) (Acting p Read) (Changed listed n) (acting (standing old) p Read none is) (same, omega (arith, most, f), stands)
        (went_such (λ L t. record { first = t.first; second = t.second; is = t.is; here = t.here; there = subst (λ m. EndsAt (OnCard old.source path) (old.window.counts.read * 65536) m (take (n - old.window.counts.read * 65536) block) t.second) len t.there })
        (picked old.source p old.window.counts.live (Source old.source) one (inl refl) two.went))
        (let a = length-append xs (take (n - old.window.counts.read * 65536) block) in let b = length-take-le (n - old.window.counts.read * 65536) block (omega (arith, len, least, most)) in let h = copying.has.so_far in omega (arith, a, b, h, f, least)) holds (λ m steady. tt)

    pub turn_lost : (block : List ℕ) (e : Failed) {w0 wp w1 : World} → next_act old.window.counts p ≡ Read → Called Picker (IsCall (Pick p)) true w0 wp
        → Called (Source old.source) (ReadCalls old.source path (old.window.counts.read * 65536) block (Err e)) false wp w1 → length block ≡ block_len old.size old.window.counts.read → standing new ≡ standing old
        → HoldsBlocks new after xs → Turned path old new after w0 w1 xs SourceFailed
    turn_lost block e {w0} {wp} {w1} is one two len stands holds = turned [] (Acting p Read) SourceFailed (acting (standing old) p Read none is) stands
        (went_such (λ L t. record { first = t.first; second = t.second; is = t.is; here = t.here; there = (refl, subst (λ m. CutAt (OnCard old.source path) (old.window.counts.read * 65536) m t.second) len t.there) })
        (picked old.source p old.window.counts.live (Source old.source) one (inl refl) two.went))
        (rose_since _ _ one.went (two.cause refl)) holds (λ m steady. tt)

    pub turn_write : (d b : ℕ) {w0 wp w1 : World} {before : PoolState} → next_act old.window.counts p ≡ Write d b → has (waiting old.window.counts) d ≡ true → b ≡ slice_index old.window.counts.written d → Called Picker (IsCall (Pick p)) true w0 wp
        → Called (Drive d) (WriteCalls (has old.kept d) (has new.kept d) true d (b * 65536) (block_of xs b)) true wp w1 → (has new.kept d ≡ true → AreOn d part_path (b * 65536) (block_of xs b) w1)
        → new.size ≡ old.size → PutStands d (standing old) (standing new) → Copying old before w0 xs → Has new after xs → Owns new.ring.slots after → Turned path old new after w0 w1 xs Going
    turn_write d b {w0} {wp} {w1} {before} is wait next one two agree size stands copying had owns =
        let v = waits old.window.counts old.window.keeps d wait in
        let calls = subst (λ n. Called (Drive d) (WriteCalls (has old.kept d) (has new.kept d) true d (n * 65536) (block_of xs n)) true wp w1) next two in
        let agrees = subst (λ n. has new.kept d ≡ true → AreOn d part_path (n * 65536) (block_of xs n) w1) next agree in
        turned [] (Acting p (Write d b)) Going (acting (standing old) p (Write d b) none is) stands
        (went_such (λ L t. none_given t) (picked old.source p old.window.counts.live (Drive d) one (inr (inr (d, v.live, refl))) two.went))
        (subst (λ (zs : List ℕ). Copying new after w1 zs) (sym (append-nil xs)) (record {
          has = had;
          parts = subst (λ n. Parts n (standing new) w1 xs) (sym size) (parts_put old.size (standing old) (standing new) old.ring.slots d xs (has old.kept d) (has new.kept d) old.window.keeps old.keeps none wait stands copying.has.so_far calls (λ keeps still. agrees still)
              (parts_still old.size (standing old) xs (λ d A on such. quiet_elsewhere d Picker (off_picker d) A on) one.went copying.parts));
        }))
        (subst (λ (zs : List ℕ). HoldsBlocks new after zs) (sym (append-nil xs)) (holds_has new after xs owns had)) (λ m steady. at_none (content m path) (length xs))

    pub turn_drop : (d b : ℕ) {w0 wp w1 : World} {before : PoolState} → next_act old.window.counts p ≡ Write d b → has old.window.counts.live d ≡ true → Called Picker (IsCall (Pick p)) true w0 wp
        → Called (Drive d) (WriteCalls (has old.kept d) (has new.kept d) false d (b * 65536) (block_of xs b)) false wp w1 → new.size ≡ old.size → standing new ≡ dropped (standing old) d → Copying old before w0 xs → Has new after xs
        → Owns new.ring.slots after → Turned path old new after w0 w1 xs (Dropped d)
    turn_drop d b {w0} {wp} {w1} {before} is live one two size stands copying had owns = turned [] (Acting p (Write d b)) (Dropped d) (acting (standing old) p (Write d b) none is) (refl, stands)
        (went_such (λ L t. none_given t) (picked old.source p old.window.counts.live (Drive d) one (inr (inr (d, live, refl))) two.went)) (
          rose_since _ _ one.went (two.cause refl),
          subst (λ (zs : List ℕ). Copying new after w1 zs) (sym (append-nil xs)) (record {
            has = had;
            parts = subst (λ n. Parts n (standing new) w1 xs) (sym size) (parts_dropped old.size (standing old) (standing new) d xs stands two.went
                (parts_still old.size (standing old) xs (λ d A on such. quiet_elsewhere d Picker (off_picker d) A on) one.went copying.parts));
          }),
        )
        (subst (λ (zs : List ℕ). HoldsBlocks new after zs) (sym (append-nil xs)) (holds_has new after xs owns had)) (λ m steady. at_none (content m path) (length xs))

    whole : {w : World} {pool : PoolState} → next_act old.window.counts p ≡ Finished → Copying old pool w xs → length xs ≡ old.size
    whole is copying = let done = act_finished old.window.counts p old.window.keeps is in let r = done.read in let n = old.keeps.blocks in let h = copying.has.so_far in omega (arith, r, n, h)

    pub turn_done : (t : Triple) {w0 wp w1 : World} {before : PoolState} → next_act old.window.counts p ≡ Finished → Called Picker (IsCall (Pick p)) true w0 wp → Called (Source old.source) (PastCalls old.source path old.size (Ok None)) true wp w1
        → standing new ≡ standing old → Copying old before w0 xs → t ≡ triple xs → HoldsBlocks new after xs → ((m : Map) → Steady wp old.source m → length (content m path) ≤ old.size) → Turned path old new after w0 w1 xs (Copied t)
    turn_done t {w0} {wp} {w1} {before} is one two stands copying digest holds ends =
        let size_is = whole is copying in
        let done = act_finished old.window.counts p old.window.keeps is in
        let parts = parts_still old.size (standing old) xs (λ d A on such. quiet_elsewhere d (Source old.source) (off_source old.source d) A on) two.went
        (parts_still old.size (standing old) xs (λ d A on such. quiet_elsewhere d Picker (off_picker d) A on) one.went copying.parts) in
        turned [] (Acting p Finished) (Copied t) (acting (standing old) p Finished none is) stands
        (went_such (λ L t. none_given t) (picked old.source p old.window.counts.live (Source old.source) one (inl refl) two.went)) (
          refl,
          size_is,
          digest,
          λ d live. part_whole d old.size w1 xs size_is (subst (λ (zs : List ℕ). PartBegins d old.size w1 zs)
              (take_all (slice_index old.window.counts.written d * 65536) xs (let a = done.wrote d live in let n = old.keeps.blocks in omega (arith, a, n, size_is))) (parts.part d live (none_lowest old.pieces none d))),
        ) holds (λ m steady. ends m (steady_still old.source m one.went steady))

    pub turn_long : (listed byte : ℕ) {w0 wp w1 : World} {before : PoolState} → next_act old.window.counts p ≡ Finished → Called Picker (IsCall (Pick p)) true w0 wp → Called (Source old.source) (PastCalls old.source path old.size (Ok (Some byte))) true wp w1
        → listed ≡ old.size → standing new ≡ standing old → Copying old before w0 xs → HoldsBlocks new after xs → Turned path old new after w0 w1 xs (Changed listed (old.size + 1))
    turn_long listed byte {w0} {wp} {w1} {before} is one two same stands copying holds =
        let size_is = whole is copying in
        turned (byte ∷ []) (Acting p Finished) (Changed listed (old.size + 1)) (acting (standing old) p Finished none is) (same, refl, stands)
        (went_such (λ L t. record { first = t.first; second = t.second; is = t.is; here = t.here; there = (t.there, refl) }) (picked old.source p old.window.counts.live (Source old.source) one (inl refl) two.went))
        (let a = length-append xs (byte ∷ []) in omega (arith, a, size_is)) holds (λ m steady. tt)

    pub turn_cut : (e : Failed) {w0 wp w1 : World} → next_act old.window.counts p ≡ Finished → Called Picker (IsCall (Pick p)) true w0 wp → Called (Source old.source) (PastCalls old.source path old.size (Err e)) false wp w1 → standing new ≡ standing old
        → HoldsBlocks new after xs → Turned path old new after w0 w1 xs SourceFailed
    turn_cut e {w0} {wp} {w1} is one two stands holds = turned [] (Acting p Finished) SourceFailed (acting (standing old) p Finished none is) stands
        (went_such (λ L t. none_given t) (picked old.source p old.window.counts.live (Source old.source) one (inl refl) two.went))
        (rose_since _ _ one.went (two.cause refl)) holds (λ m steady. tt)

  module _ (d : ℕ) (next : lowest old.pieces ≡ Some d) where
    ready : has old.pieces d ≡ true
    ready = lowest_has old.pieces d next

    piece_done : doing (standing old) p ≡ EmptyPiece d
    piece_done = ap (λ o. doing_next o old.window.counts p) next

    pub turn_piece : {w0 w1 : World} {before : PoolState} → Tried d (write_call d part_path 0 [] ∷ []) true w0 w1 → new.size ≡ old.size → standing new ≡ with_piece (standing old) d → Copying old before w0 xs → Has new after xs
        → Owns new.ring.slots after → Turned path old new after w0 w1 xs Going
    turn_piece {w0} {w1} {before} one size stands copying had owns = turned [] (EmptyPiece d) Going piece_done stands
        (went_such (λ L t. (refl, t)) (went_on (λ x is. inr (inr (d, old.keeps.pieces_live d ready, is))) one.went))
        (subst (λ (zs : List ℕ). Copying new after w1 zs) (sym (append-nil xs)) (record {
          has = had;
          parts = subst (λ n. Parts n (standing new) w1 xs) (sym size) (parts_piece old.size (standing old) (standing new) d old.ring.slots xs old.window.keeps old.keeps ready stands one copying.parts);
        }))
        (subst (λ (zs : List ℕ). HoldsBlocks new after zs) (sym (append-nil xs)) (holds_has new after xs owns had)) (λ m steady. at_none (content m path) (length xs))

    pub turn_piece_lost : {w0 w1 : World} {before : PoolState} → Tried d (write_call d part_path 0 [] ∷ []) false w0 w1 → new.size ≡ old.size → standing new ≡ dropped (standing old) d → Copying old before w0 xs → Has new after xs
        → Owns new.ring.slots after → Turned path old new after w0 w1 xs (Dropped d)
    turn_piece_lost {w0} {w1} {before} one size stands copying had owns = turned [] (EmptyPiece d) (Dropped d) piece_done (refl, stands)
        (went_such (λ L t. (refl, t)) (went_on (λ x is. inr (inr (d, old.keeps.pieces_live d ready, is))) one.went)) (
          one.cause refl,
          subst (λ (zs : List ℕ). Copying new after w1 zs) (sym (append-nil xs)) (record {
            has = had;
            parts = subst (λ n. Parts n (standing new) w1 xs) (sym size) (parts_dropped old.size (standing old) (standing new) d xs stands one.went copying.parts);
          }),
        )
        (subst (λ (zs : List ℕ). HoldsBlocks new after zs) (sym (append-nil xs)) (holds_has new after xs owns had)) (λ m steady. at_none (content m path) (length xs))

    pub nearer_piece : standing new ≡ with_piece (standing old) d → turns_left (standing new) < turns_left (standing old)
    nearer_piece stands =
        let t = ap turns_left stands in
        let less = count_less old.pieces d ready in
        omega (arith, t, less)

    pub nearer_piece_lost : standing new ≡ dropped (standing old) d → turns_left (standing new) < turns_left (standing old)
    nearer_piece_lost stands =
        let t = ap turns_left stands in
        let less = count_less old.pieces d ready in
        let drop = left_drop old.window.counts old.window.keeps d (old.keeps.pieces_live d ready) in
        omega (arith, t, less, drop)

  pub nearer_read : CanRead old.window.counts → standing new ≡ with_read (standing old) → turns_left (standing new) < turns_left (standing old)
  nearer_read can stands =
      let t = ap turns_left stands in
      let less = left_read old.window.counts can.more in
      omega (arith, t, less)

  pub nearer_write : (d : ℕ) → has (waiting old.window.counts) d ≡ true → PutStands d (standing old) (standing new) → turns_left (standing new) < turns_left (standing old)
  nearer_write d wait stands =
      let a = ap acts_left (put_counts d (standing old) (standing new) stands) in
      let b = ap count (put_pieces d (standing old) (standing new) stands) in
      let less = left_write old.window.counts old.window.keeps d wait in
      omega (arith, a, b, less)

  pub nearer_drop : (d : ℕ) → has (waiting old.window.counts) d ≡ true → standing new ≡ dropped (standing old) d → turns_left (standing new) < turns_left (standing old)
  nearer_drop d wait stands =
      let t = ap turns_left stands in
      let v = waits old.window.counts old.window.keeps d wait in
      let drop = left_drop old.window.counts old.window.keeps d v.live in
      let most = count_most old.pieces d in
      let below = v.below in
      let within = old.window.keeps.within in
      omega (arith, t, drop, most, below, within)

-- a number that is there
pub some_number : (o : Option ℕ) → is_some o ≡ true → (d : ℕ) × (o ≡ Some d)
some_number None is = absurd (cc is)
some_number (Some d) is = (d, refl)
