use Rattle.std.proofs.Common.{arith}
use Rattle.file_reading.proofs.Listings.{content_unlisted, content_large, content_whole, content_absent, content_past}
use Rattle.file_reading.proofs.listed.content_of.Goals as goal

pub returns-in_default-clause-read : goal.returns-in_default-clause-read
returns-in_default-clause-read g c = content_unlisted _ _ _ _ _ c.in_default.is

pub returns-then-size-limit-clause-read : goal.returns-then-size-limit-clause-read
returns-then-size-limit-clause-read g c = content_large _ _ _ _ _ _ c.in-Some.is (omega arith)

pub returns-in-Ok-clause-read : goal.returns-in-Ok-clause-read
returns-in-Ok-clause-read g c = content_whole _ _ _ _ _ c.in-Ok.bytes _ _ c.in-Some.is (omega arith) c.in-Ok.ensures.read

pub returns-in-Err-Absent-clause-read : goal.returns-in-Err-Absent-clause-read
returns-in-Err-Absent-clause-read g c = content_absent _ _ _ _ _ _ _ _ c.in-Some.is (omega arith) c.in-Err-Absent.field-0-is c.in-Err-Absent.ensures.read

pub returns-in-Err-TooLong-clause-read : goal.returns-in-Err-TooLong-clause-read
returns-in-Err-TooLong-clause-read g c = content_past _ _ _ _ _ _ _ _ c.in-Some.is (omega arith) c.in-Err-TooLong.field-0-is c.in-Err-TooLong.ensures.read
