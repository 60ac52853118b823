use Rattle.std.proofs.Common.{◌≡◌, ℕ, ◌+◌, ◌-◌, ◌%◌, ◌^◌, ◌<◌, ◌≤◌, List, [], ◌++◌, length, take, drop, refl, ap, ◌∙◌, arith, length-append, length-drop, append-nil}
use Rattle.std.proofs.lemmas.List.{take_at, drop_all}
use Rattle.std.proofs.lemmas.Slice.{take-put_mid}
use borrow.Rule.Slice.PartMut.{post_of}
use Rattle.xxh64_stream.specs.declared.hasher.Xxh64.TheInside.{Inside}
use Rattle.xxh64_stream.specs.Xxh64.{absorb}
use Rattle.std.specs.List.{fold}
use Rattle.xxh64_stream.proofs.States.{parts_of, from_parts, Remains, total-append, state_short, remains_filled, remains_all, remains_length, state_whole}
use Rattle.xxh64_stream.proofs.hasher.Xxh64.update.Goals as goal
use Rattle.xxh64_stream.proofs.hasher.Xxh64.update.Goals.{then-held-gt0, else-held-gt0}

pub returns-then-bytes-held : goal.returns-then-bytes-held
returns-then-bytes-held c = λ seed fed held.
    let p = parts_of (c.self.view_is ∙ held) in
    let full : length c.self.inside.buffer ≡ 32 = c.self.told.1 in
    let short : c.self.inside.total % 32 + length c.args.bytes.now < 32 = omega arith in
    let copied : length c.copy_from_slice.new.self ≡ length c.args.bytes.now = ap length c.copy_from_slice.ensures.after in
    from_parts (state_short c.args.bytes.now _ _ p short
    (take-put_mid (c.self.inside.total % 32) _ c.self.inside.buffer c.copy_from_slice.new.self _ (omega arith) (omega arith)
    ∙ ap (λ (d : List ℕ). take (c.self.inside.total % 32) c.self.inside.buffer ++ d) c.copy_from_slice.ensures.after) refl)

pub returns : goal.returns
returns c = λ seed fed held.
    let p = parts_of (c.self.view_is ∙ held) in
    let full : length c.self.inside.buffer ≡ 32 = c.self.told.1 in
    let all : List ℕ = fed ++ c.args.bytes.now in
    let seed_is : c.if-held-gt0.self-inside.seed ≡ seed =
    elim c.if-held-gt0.branch [
      | then-held-gt0 w ↦ ap (λ (a : Inside). a.seed) w.self-inside-is ∙ p.seed_is
      | else-held-gt0 w ↦ ap (λ (a : Inside). a.seed) w.self-inside-is ∙ p.seed_is
    ] in
    let total_is : c.if-held-gt0.self-inside.total ≡ length all % 2 ^ 64 =
    elim c.if-held-gt0.branch [
      | then-held-gt0 w ↦ ap (λ (a : Inside). a.total) w.self-inside-is ∙ total-append _ fed c.args.bytes.now p.total_is
      | else-held-gt0 w ↦ ap (λ (a : Inside). a.total) w.self-inside-is ∙ total-append _ fed c.args.bytes.now p.total_is
    ] in
    let remains : Remains seed all c.if-held-gt0.self-inside.accs c.if-held-gt0.rest.now =
    elim c.if-held-gt0.branch [
      | then-held-gt0 w ↦
          let front_length : length w.split_at.result.0.now ≡ 32 - c.self.inside.total % 32 = w.split_at.ensures.front_len in
          let copied : w.copy_from_slice-then-held-gt0.new.self ≡ w.split_at.result.0.now = w.copy_from_slice-then-held-gt0.ensures.after in
          let none : post_of (c.self.inside.total % 32) (32 - c.self.inside.total % 32) c.self.inside.buffer ≡ [] =
          drop_all _ (drop (c.self.inside.total % 32) c.self.inside.buffer) (omega (arith, length-drop (c.self.inside.total % 32) c.self.inside.buffer)) in
          rw (ap (λ (a : Inside). a.accs) w.self-inside-is, w.rest-is)
          (remains_filled w.split_at.result.0.now w.split_at.result.1.now c.args.bytes.now _ w.absorb-self-inside.result p (omega (arith, front_length)) (rw (none, append-nil, copied))
          w.absorb-self-inside.ensures w.split_at.ensures.by_index.0)
      | else-held-gt0 w ↦
          rw (ap (λ (a : Inside). a.accs) w.self-inside-is, w.rest-is) (remains_all c.args.bytes.now p w.if-held-gt0.false)
    ] in
    let rest_length : length c.if-held-gt0.rest.now % 32 ≡ length all % 32 = remains_length remains in
    let long : 32 ≤ length all = omega (arith, p.total_is, length-append fed c.args.bytes.now) in
    let copied : c.copy_from_slice-2.new.self ≡ c.as_chunks.result.1.now = c.copy_from_slice-2.ensures.after in
    let copied_length : length c.copy_from_slice-2.new.self ≡ length c.if-held-gt0.rest.now % 32 = ap length copied ∙ c.as_chunks.ensures.back_len in
    from_parts (state_whole _ _ _ _ remains long seed_is
    (c.absorb_all-self-inside.ensures ∙ ap (fold absorb c.if-held-gt0.self-inside.accs) c.as_chunks.ensures.front)
    (take_at c.copy_from_slice-2.new.self _ _ (omega arith) ∙ copied ∙ c.as_chunks.ensures.back) total_is)
