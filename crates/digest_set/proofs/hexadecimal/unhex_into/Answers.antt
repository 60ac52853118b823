use Rattle.std.proofs.Common.{length}
use Rattle.hex.proofs.HexLemmas.{IsOk-decode_sized, IsOk-written}
use Rattle.digest_set.proofs.HexPairs.{written_on}
use Rattle.digest_set.proofs.hexadecimal.unhex_into.Goals as goal

pub returns-clause-digits : goal.returns-clause-digits
returns-clause-digits c =
    let read = IsOk-written _ _ _ c.decode_to_slice.ensures.value in
    let digits = IsOk-decode_sized c.args.text.now (length c.args.out.now) in (
      λ h. digits.0 (read.0 (rw c.is_ok.ensures.value at h)),
      λ h. rw c.is_ok.ensures.value (read.1 (digits.1 h)),
    )

pub returns-clause-bytes : goal.returns-clause-bytes
returns-clause-bytes c = written_on _ _ (length c.args.out.now) c.decode_to_slice.result _ c.is_ok.ensures.value c.decode_to_slice.ensures.value
