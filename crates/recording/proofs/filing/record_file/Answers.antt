use Rattle.recording.proofs.Acts.{sync_calls, sync_records, back_calls, back_records, fails_alone, ok_calls, failed_calls, file_records, cleans}
use Rattle.std.proofs.Common.{true, false}
use Rattle.recording.proofs.filing.record_file.Goals as goal

pub returns-in-Err-clause-went : goal.returns-in-Err-clause-went
returns-in-Err-clause-went g c = sync_calls _ _ _ _ c.in-Err.ensures

pub returns-in-Err-clause-records : goal.returns-in-Err-clause-records
returns-in-Err-clause-records g c = sync_records _ _ _ _ c.in-Err.ensures

pub returns-in-Err-read_back-clause-went : goal.returns-in-Err-read_back-clause-went
returns-in-Err-read_back-clause-went g c = back_calls _ _ _ _ c.in-Ok.ensures _ c.in-Err-read_back.ensures.read

pub returns-in-Err-read_back-clause-honest : goal.returns-in-Err-read_back-clause-honest
returns-in-Err-read_back-clause-honest g c = fails_alone _ _ _ c.in-Ok.ensures c.in-Err-read_back.ensures.read c.in-Err-read_back.ensures.exactly

pub returns-in-Err-read_back-clause-records : goal.returns-in-Err-read_back-clause-records
returns-in-Err-read_back-clause-records g c = back_records _ _ _ _ c.in-Ok.ensures c.in-Err-read_back.ensures.read

pub returns-in-Ok-file_part-clause-went : goal.returns-in-Ok-file_part-clause-went
returns-in-Ok-file_part-clause-went g c = ok_calls _ _ _ _ c.in-Ok.ensures c.in-Ok-file_part.next c.in-Ok-read_back.ensures.read c.in-Ok-file_part.ensures.tried

pub returns-in-Ok-file_part-clause-records : goal.returns-in-Ok-file_part-clause-records
returns-in-Ok-file_part-clause-records g c = file_records _ _ _ _ true c.in-Ok.ensures c.in-Ok-read_back.ensures.read c.in-Ok-file_part.ensures.tried c.in-Ok-file_part.ensures.files

pub returns-in-Err-file_part-clause-went : goal.returns-in-Err-file_part-clause-went
returns-in-Err-file_part-clause-went g c = failed_calls _ _ _ _ c.in-Ok.ensures c.in-Ok-read_back.ensures.read c.in-Err-file_part.ensures.tried

pub returns-in-Err-file_part-clause-records : goal.returns-in-Err-file_part-clause-records
returns-in-Err-file_part-clause-records g c = file_records _ _ _ _ false c.in-Ok.ensures c.in-Ok-read_back.ensures.read c.in-Err-file_part.ensures.tried c.in-Err-file_part.ensures.files

pub returns-in-Ok-file_part-clause-clean : goal.returns-in-Ok-file_part-clause-clean
returns-in-Ok-file_part-clause-clean g c = cleans _ _ _ _ c.in-Ok-file_part.next c.requires.card_path (returns-in-Ok-file_part-clause-went g c)
