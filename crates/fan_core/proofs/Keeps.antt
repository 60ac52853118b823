-- The steps of a window keep what is always so of its counts; what an act says of them; what is left.
use Rattle.std.proofs.Common.{◌≡◌, ◌≢◌, ◌⊎◌, inl, inr, ℕ, zero, suc, ◌+◌, ◌-◌, ◌*◌, ◌<◌, ◌≤◌, Bool, true, false, cond, ◌&&◌, nat_lt, List, [], ◌∷◌, length, replicate, slice_index, slice_set, refl, sym, ◌∙◌, ap, arith, length-set, ◌↔◌}
use Rattle.std.specs.Prelude.{Option, Some, None}
use Rattle.std.proofs.lemmas.Bool.{lt-ltb, ltb-true}
use Rattle.std.proofs.lemmas.Bool.Decides.{nat_tests}
use Rattle.fan_core.specs.declared.counts.Counts.{Counts}
use Rattle.fan_core.specs.declared.act.Act.{Act}
use Rattle.fan_core.specs.declared.act.Act.TheVariants.{Read, Write, Finished}
use Rattle.fan_core.specs.Flags.{has, lowest, count}
use Rattle.fan_core.specs.Next.{fewest, to_write, waiting, held, chosen, writes, writes_next, next_act, one_more_read, one_more_written, without_drive, CanRead, Done, IsWindow, acts_left}
use Rattle.fan_core.proofs.Rules.{has-behind, length-behind, lowest_has, none_lowest, fewest_le, fewest_read, fewest_least, to_write-written, to_write-dropped, to_write-new}

-- a drive that waits is live, is one of eight, and wrote less than was read
pub record Waits (counts : Counts) (d : ℕ) : Type 0 where
  pub live : has counts.live d ≡ true
  pub below : slice_index counts.written d < counts.read
  pub eight : d < 8

both : (a b : Bool) → a && b ≡ true → (a ≡ true) × (b ≡ true)
both true true is = (refl, refl)
both true false is = absurd (cc is)
both false b is = absurd (cc is)

lt_or_le : (m n : ℕ) → (m < n) ⊎ (n ≤ m)
lt_or_le m n = grind arith

in_list : (set : List Bool) (d : ℕ) → has set d ≡ true → d < length set
in_list [] d is = absurd (cc is)
in_list (flag ∷ set) zero is = omega arith
in_list (flag ∷ set) (suc d) is = let rest = in_list set d is in omega (arith, rest)

pub same_length : (counts : Counts) → IsWindow counts → length counts.written ≡ length counts.live
same_length counts keeps = omega (arith, keeps.eight_live, keeps.eight_written)

pub length-waiting : (counts : Counts) → IsWindow counts → length (waiting counts) ≡ 8
length-waiting counts keeps = length-behind counts.live counts.written counts.read (same_length counts keeps) ∙ keeps.eight_live

-- a drive waits where it is live and wrote less than was read
pub has-waiting : (counts : Counts) → IsWindow counts → (d : ℕ) → has (waiting counts) d ≡ has counts.live d && nat_lt (slice_index counts.written d) counts.read
has-waiting counts keeps d = has-behind counts.live counts.written counts.read d (same_length counts keeps)

pub waits : (counts : Counts) → IsWindow counts → (d : ℕ) → has (waiting counts) d ≡ true → Waits counts d
waits counts keeps d waiting_is =
    let parts = both _ _ (sym (has-waiting counts keeps d) ∙ waiting_is) in
    let in_range = in_list counts.live d parts.0 in
    record { live = parts.0; below = ltb-true _ _ parts.1; eight = omega (arith, in_range, keeps.eight_live) }

pub is_waiting : (counts : Counts) → IsWindow counts → (d : ℕ) → has counts.live d ≡ true → slice_index counts.written d < counts.read → has (waiting counts) d ≡ true
is_waiting counts keeps d live below =
    has-waiting counts keeps d ∙ ap (λ b. b && nat_lt (slice_index counts.written d) counts.read) live ∙ lt-ltb _ _ below

pub keeps_read : (counts : Counts) → IsWindow counts → CanRead counts → IsWindow (one_more_read counts)
keeps_read counts keeps can =
    let room = can.room in
    let before = fewest counts.live counts.written counts.read in
    let now = fewest_read counts.live counts.written counts.read in
    let most : before ≤ counts.read + 1 = omega (arith, now) in
    let grown = fewest_least counts.live counts.written (counts.read + 1) before most (λ d live. fewest_le counts.live counts.written counts.read d (same_length counts keeps) live) in
    record {
      eight_live = keeps.eight_live;
      eight_written = keeps.eight_written;
      in_range = keeps.in_range;
      within = let more = can.more in omega (arith, more);
      behind = λ d live. let behind = keeps.behind d live in omega (arith, behind);
      slots = omega (arith, now, grown, room);
      some_slot = keeps.some_slot;
    }

set_same_or : (written : List ℕ) (d e blocks : ℕ) → ((e ≡ d) × (d < length written) × (slice_index (slice_set written d blocks) e ≡ blocks)) ⊎ (slice_index (slice_set written d blocks) e ≡ slice_index written e)
set_same_or [] d e blocks = inr refl
set_same_or (first ∷ written) zero zero blocks = inl (refl, omega arith, refl)
set_same_or (first ∷ written) zero (suc e) blocks = inr refl
set_same_or (first ∷ written) (suc d) zero blocks = inr refl
set_same_or (first ∷ written) (suc d) (suc e) blocks = elim (set_same_or written d e blocks) [ inl same ↦ inl (ap suc same.0, omega (arith, same.1), same.2) | inr other ↦ inr other ]

pub keeps_write : (counts : Counts) → IsWindow counts → (d : ℕ) → has (waiting counts) d ≡ true → IsWindow (one_more_written counts d)
keeps_write counts keeps d waiting_is =
    let wait = waits counts keeps d waiting_is in
    let below = wait.below in
    let next = slice_index counts.written d + 1 in
    let before = fewest counts.live counts.written counts.read in
    let grown = fewest_least counts.live (slice_set counts.written d next) counts.read before (fewest_read counts.live counts.written counts.read) (λ e live.
    let least = fewest_le counts.live counts.written counts.read e (same_length counts keeps) live in
    elim (set_same_or counts.written d e next) [
      | inl same ↦ let at = same.2 in let old = ap (slice_index counts.written) same.0 in omega (arith, at, old, least)
      | inr other ↦ omega (arith, other, least)
    ]) in
    record {
      eight_live = keeps.eight_live;
      eight_written = length-set counts.written d _ ∙ keeps.eight_written;
      in_range = keeps.in_range;
      within = keeps.within;
      behind = λ e live.
          let behind = keeps.behind e live in
          elim (set_same_or counts.written d e next) [
            | inl same ↦ let at = same.2 in omega (arith, at, below)
            | inr other ↦ omega (arith, other, behind)
          ];
      slots = let slots = keeps.slots in omega (arith, grown, slots);
      some_slot = keeps.some_slot;
    }

-- what is live after a drive was dropped was live before, and is another drive
pub still_live : (live : List Bool) (d e : ℕ) → has (slice_set live d false) e ≡ true → (has live e ≡ true) × (e ≢ d)
still_live [] d e is = absurd (cc is)
still_live (flag ∷ live) zero zero is = absurd (cc is)
still_live (flag ∷ live) zero (suc e) is = (is, λ same. absurd (cc same))
still_live (flag ∷ live) (suc d) zero is = (is, λ same. absurd (cc same))
still_live (flag ∷ live) (suc d) (suc e) is = let still = still_live live d e is in (still.0, λ same. still.1 (cc same))

pub keeps_drop : (counts : Counts) → IsWindow counts → (d : ℕ) → IsWindow (without_drive counts d)
keeps_drop counts keeps d =
    let grown = fewest_least (slice_set counts.live d false) counts.written counts.read (fewest counts.live counts.written counts.read) (fewest_read counts.live counts.written counts.read)
    (λ e live. fewest_le counts.live counts.written counts.read e (same_length counts keeps) (still_live counts.live d e live).0) in
    record {
      eight_live = length-set counts.live d false ∙ keeps.eight_live;
      eight_written = keeps.eight_written;
      in_range = keeps.in_range;
      within = keeps.within;
      behind = λ e live. keeps.behind e (still_live counts.live d e live).0;
      slots = let slots = keeps.slots in omega (arith, grown, slots);
      some_slot = keeps.some_slot;
    }

-- an act by what the rule asks: whether the chosen drive waits, whether a block can be read, and which drive waits
abbrev act_by : Counts → ℕ → Bool → Bool → Option ℕ → Act
act_by counts drive waits reads next = cond waits (writes counts drive) (cond reads Read (writes_next counts next))

-- whether the rule lets a block be read
abbrev may_read : Counts → Bool
may_read counts = nat_lt counts.read counts.blocks && nat_lt (held counts) counts.slots

waited : (counts : Counts) → (drive : ℕ) (waits reads : Bool) (next : Option ℕ) → has (waiting counts) drive ≡ waits → next ≡ lowest (waiting counts) → (d block : ℕ) → act_by counts drive waits reads next ≡ Write d block
    → (has (waiting counts) d ≡ true) × (block ≡ slice_index counts.written d)
waited counts drive true reads next at low d block is =
    let same : drive ≡ d = cc is in
    let its_next : slice_index counts.written drive ≡ block = cc is in
    (ap (has (waiting counts)) (sym same) ∙ at, sym its_next ∙ ap (slice_index counts.written) same)
waited counts drive false true next at low d block is = absurd (cc is)
waited counts drive false false None at low d block is = absurd (cc is)
waited counts drive false false (Some first) at low d block is =
    let same : first ≡ d = cc is in
    let its_next : slice_index counts.written first ≡ block = cc is in
    (lowest_has (waiting counts) d (sym low ∙ ap Some same), sym its_next ∙ ap (slice_index counts.written) same)

-- a drive that is told to write has a read block to write, its next one
pub act_write : (counts : Counts) (pick d block : ℕ) → next_act counts pick ≡ Write d block → (has (waiting counts) d ≡ true) × (block ≡ slice_index counts.written d)
act_write counts pick d block is = waited counts (chosen counts pick) (has (waiting counts) (chosen counts pick)) (may_read counts) (lowest (waiting counts)) refl refl d block is

reads_by : (counts : Counts) (drive : ℕ) (waits reads : Bool) (next : Option ℕ) → may_read counts ≡ reads → act_by counts drive waits reads next ≡ Read → CanRead counts
reads_by counts drive true reads next at is = absurd (cc is)
reads_by counts drive false true next at is = let parts = both _ _ at in record { more = ltb-true _ _ parts.0; room = ltb-true _ _ parts.1 }
reads_by counts drive false false None at is = absurd (cc is)
reads_by counts drive false false (Some d) at is = absurd (cc is)

-- a block that is to be read can be read
pub act_read : (counts : Counts) (pick : ℕ) → next_act counts pick ≡ Read → CanRead counts
act_read counts pick is = reads_by counts (chosen counts pick) (has (waiting counts) (chosen counts pick)) (may_read counts) (lowest (waiting counts)) refl is

not_both : (a b c d : ℕ) → nat_lt a b && nat_lt c d ≡ false → c < d → b ≤ a
not_both a b c d is room = grind (arith, nat_tests)

ended : (counts : Counts) → IsWindow counts → (drive : ℕ) (waits reads : Bool) (next : Option ℕ) → may_read counts ≡ reads → next ≡ lowest (waiting counts) → act_by counts drive waits reads next ≡ Finished → Done counts
ended counts keeps drive true reads next at low is = absurd (cc is)
ended counts keeps drive false true next at low is = absurd (cc is)
ended counts keeps drive false false (Some d) at low is = absurd (cc is)
ended counts keeps drive false false None at low is =
    let all : counts.read ≤ fewest counts.live counts.written counts.read = fewest_least counts.live counts.written counts.read counts.read (omega arith) wrote in
    let some = keeps.some_slot in
    let room : held counts < counts.slots = omega (arith, all, some) in
    let more = not_both counts.read counts.blocks (held counts) counts.slots at room in
    let within = keeps.within in
    record {
      read = omega (arith, more, within);
      wrote = λ d live. let least = wrote d live in let behind = keeps.behind d live in omega (arith, least, behind, more, within);
    }
  where
    wrote : (d : ℕ) → has counts.live d ≡ true → counts.read ≤ slice_index counts.written d
    wrote d live = elim (lt_or_le (slice_index counts.written d) counts.read) [
      | inl below ↦ absurd (cc (sym (is_waiting counts keeps d live below) ∙ none_lowest (waiting counts) (sym low) d))
      | inr above ↦ above
    ]

-- where all is finished, all is read and each live drive wrote all
pub act_finished : (counts : Counts) (pick : ℕ) → IsWindow counts → next_act counts pick ≡ Finished → Done counts
act_finished counts pick keeps is = ended counts keeps (chosen counts pick) (has (waiting counts) (chosen counts pick)) (may_read counts) (lowest (waiting counts)) refl refl is

none_waits : (counts : Counts) → IsWindow counts → Done counts → (d : ℕ) → has (waiting counts) d ≡ true → ⊥
none_waits counts keeps done d waiting_is =
    let wait = waits counts keeps d waiting_is in
    let below = wait.below in
    let wrote = done.wrote d wait.live in
    let read = done.read in
    absurd (omega (arith, wrote, below, read))

finished_by : (counts : Counts) (drive : ℕ) → IsWindow counts → Done counts → (waits reads : Bool) (next : Option ℕ) → has (waiting counts) drive ≡ waits → may_read counts ≡ reads → next ≡ lowest (waiting counts) → act_by counts drive waits reads next ≡ Finished
finished_by counts drive keeps done true reads next at may low = absurd (none_waits counts keeps done drive at)
finished_by counts drive keeps done false true next at may low =
    let parts = both _ _ may in
    let below = ltb-true counts.read counts.blocks parts.0 in
    let read = done.read in
    absurd (omega (arith, below, read))
finished_by counts drive keeps done false false None at may low = refl
finished_by counts drive keeps done false false (Some d) at may low = absurd (none_waits counts keeps done d (lowest_has (waiting counts) d (sym low)))

-- where all is read and each live drive wrote all, all is finished
pub act_done : (counts : Counts) (pick : ℕ) → IsWindow counts → Done counts → next_act counts pick ≡ Finished
act_done counts pick keeps done = finished_by counts (chosen counts pick) keeps done (has (waiting counts) (chosen counts pick)) (may_read counts) (lowest (waiting counts)) refl refl refl

-- all is finished exactly where all is read and each live drive wrote all
pub finished_exactly : (counts : Counts) (pick : ℕ) (act : Act) → IsWindow counts → act ≡ next_act counts pick → (act ≡ Finished) ↔ Done counts
finished_exactly counts pick act keeps is = (λ finished. act_finished counts pick keeps (sym is ∙ finished), λ done. is ∙ act_done counts pick keeps done)

-- a read leaves one act less
pub left_read : (counts : Counts) → counts.read < counts.blocks → acts_left (one_more_read counts) + 1 ≡ acts_left counts
left_read counts more = omega (arith, more)

-- a write leaves one act less
pub left_write : (counts : Counts) → IsWindow counts → (d : ℕ) → has (waiting counts) d ≡ true → acts_left (one_more_written counts d) + 1 ≡ acts_left counts
left_write counts keeps d waiting_is =
    let wait = waits counts keeps d waiting_is in
    let below = wait.below in
    let within = keeps.within in
    let less = to_write-written counts.live counts.written counts.blocks d (same_length counts keeps) wait.live (omega (arith, below, within)) in
    omega (arith, less)

-- a drop leaves out the writes of the drive
pub left_drop : (counts : Counts) → IsWindow counts → (d : ℕ) → has counts.live d ≡ true → acts_left (without_drive counts d) + (counts.blocks - slice_index counts.written d) ≡ acts_left counts
left_drop counts keeps d live = let less = to_write-dropped counts.live counts.written counts.blocks d (same_length counts keeps) live in omega (arith, less)

-- at the start: a read and a write on each drive for each block
pub left_new : (counts : Counts) → counts.read ≡ 0 → counts.written ≡ replicate 8 0 → length counts.live ≡ 8 → acts_left counts ≡ counts.blocks + count counts.live * counts.blocks
left_new counts none zeros eight =
    let writes = ap (λ (written : List ℕ). to_write counts.live written counts.blocks) zeros ∙ to_write-new counts.live 8 counts.blocks eight in
    omega (arith, writes, none)
