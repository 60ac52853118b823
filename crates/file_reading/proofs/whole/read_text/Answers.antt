use Rattle.std.proofs.Common.{◌≡◌, ◌+◌, sym, ap, subst, arith, rules, length, length-append, take, ◌++◌}
use Rattle.std.proofs.lemmas.List.{length-take}
use Rattle.file_reading.specs.Reads.{SoFar}
use Rattle.file_reading.proofs.Pieces.{so_far_none, some_bound, piece_some, piece_none}
use Rattle.file_reading.proofs.Wholes.{gave_none, text_ended, text_absent, text_large, text_failed, text_memory, text_more}
use Rattle.file_reading.proofs.whole.read_text.Goals as goal

pub loop-text-init : goal.loop-text-init
loop-text-init g c = record {
  read = subst (λ b. SoFar c.args.d c.args.path.now (c.args.limit + 1) b (g.B.Bay.world c.args.bay.now) (g.B.Bay.world c.args.bay.now)) (sym c.requires.empty) (so_far_none _ _ _ _);
  within = let e = ap length c.requires.empty in omega (arith, e);
}

pub returns-in-Err-clause-read : goal.returns-in-Err-clause-read
returns-in-Err-clause-read g c = text_failed _ _ _ _ _ _ _ _ c.loop-text.invariant.read c.in-Err.ensures.read

pub returns-in-Ok-None-clause-read : goal.returns-in-Ok-None-clause-read
returns-in-Ok-None-clause-read g c =
    let here : c.len-at.result ≡ length c.loop-text.text.items = search rules in
    let now : c.len.result ≡ length c.loop-text.text.items = search rules in
    text_absent _ _ _ _ _ _ _ _ _ c.loop-text.invariant.read here (omega (arith, here, now)) (piece_none _ _ _ _ c.in-Ok-None.field-0 c.read_piece.new.buffer _ _ c.in-Ok-None.field-0-is c.in-Ok-None.ensures.read)

pub returns-then-n-eq0-clause-read : goal.returns-then-n-eq0-clause-read
returns-then-n-eq0-clause-read g c =
    let here : c.len-at.result ≡ length c.loop-text.text.items = search rules in
    let now : c.len.result ≡ length c.loop-text.text.items = search rules in
    let piece = piece_some _ _ _ _ c.in-Ok-Some.field-0 c.in-Ok-Some.n c.read_piece.new.buffer _ _ c.in-Ok-Some.field-0-is c.in-Ok-Some.ensures.read in
    text_ended _ _ _ c.loop-text.text.items _ _ _ _ c.loop-text.invariant.read (gave_none _ _ _ _ c.in-Ok-Some.n c.loop-text.text.items c.read_piece.new.buffer _ _ here c.if-n-eq0.true piece) (omega (arith, here, now)) (omega (arith, here, now)) (omega (arith, now))

pub loop-text-preserved : goal.loop-text-preserved
loop-text-preserved g c =
    let here : c.len-at.result ≡ length c.loop-text.text.items = search rules in
    let now : c.len.result ≡ length c.loop-text.text.items = search rules in
    let piece = piece_some _ _ _ _ c.in-Ok-Some.field-0 c.in-Ok-Some.n c.read_piece.new.buffer _ _ c.in-Ok-Some.field-0-is c.in-Ok-Some.ensures.read in
    let few = some_bound c.in-Ok-Some.field-0 _ c.in-Ok-Some.ensures.bound c.in-Ok-Some.n c.in-Ok-Some.field-0-is in
    let more : c.extend_from_slice.new.self.items ≡ c.loop-text.text.items ++ take c.in-Ok-Some.n c.read_piece.new.buffer = search rules in
    record {
      read = text_more _ _ _ c.loop-text.text.items _ _ _ c.in-Ok-Some.n c.read_piece.new.buffer _ _ _ c.loop-text.invariant.read here (omega (arith, here, now)) piece more;
      within = omega (arith, ap length more, here, now, few, length-append c.loop-text.text.items (take c.in-Ok-Some.n c.read_piece.new.buffer), length-take c.in-Ok-Some.n c.read_piece.new.buffer);
    }

pub returns-in-Err-extend_from_slice-clause-read : goal.returns-in-Err-extend_from_slice-clause-read
returns-in-Err-extend_from_slice-clause-read g c = text_memory _ _ _ _ _ _ _ _ _ _ c.loop-text.invariant.read (piece_some _ _ _ _ c.in-Ok-Some.field-0 c.in-Ok-Some.n c.read_piece.new.buffer _ _ c.in-Ok-Some.field-0-is c.in-Ok-Some.ensures.read)

pub returns-clause-read : goal.returns-clause-read
returns-clause-read g c =
    let now : c.len.result ≡ length c.loop-text.text.items = search rules in
    let within = c.loop-text.invariant.within in
    text_large _ _ _ _ _ _ c.loop-text.invariant.read (omega (arith, now, within))
