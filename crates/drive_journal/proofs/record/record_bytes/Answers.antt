use Rattle.std.proofs.Common.{◌≡◌, ◌++◌, [], ◌∷◌, length, ap, ◌∙◌, arith}
use Rattle.std.specs.Int.{to_be_bytes, w64}
use Rattle.drive_journal.specs.Record.{record_code}
use Rattle.drive_journal.proofs.Fields.{length-record_code, put_all}
use Rattle.drive_journal.proofs.record.record_bytes.Goals as goal

pub returns-clause-code : goal.returns-clause-code
unfolding record_code
returns-clause-code c =
    let rec = c.args.rec.now in
    let a : length c.to_be_bytes.result ≡ 4 = ap length c.to_be_bytes.ensures in
    let b : length c.to_be_bytes-2.result ≡ 8 = ap length c.to_be_bytes-2.ensures in
    let f : length c.to_be_bytes-3.result ≡ 8 = ap length c.to_be_bytes-3.ensures in
    let hashed : c.to_be_bytes-3.result ≡ to_be_bytes w64 rec.hashed = c.to_be_bytes-3.ensures ∙ ap (to_be_bytes w64) c.seconds.ensures.value in
    put_all _ _ _ _ _ _ _ _ _ _ _ _ _ (record { first = c.put.ensures; second = c.put-2.ensures; third = c.put-3.ensures; fourth = c.put-4.ensures; fifth = c.put-5.ensures; sixth = c.put-6.ensures }) a b (omega arith) (omega arith) (omega arith) f
    ∙ (λ i. c.to_be_bytes.ensures i ++ c.to_be_bytes-2.ensures i ++ rec.triple.md5 ++ rec.triple.sha1 ++ rec.triple.xxh ++ hashed i ++ 0 ∷ [])

pub returns-clause-size : goal.returns-clause-size
returns-clause-size c = length-record_code c.args.rec.now (record { md5 = omega arith; sha1 = omega arith; xxh = omega arith })
