use Rattle.verify_run.proofs.Reported.{result_verified, result_numbers, result_lines, result_begun, result_memory, verified_as}
use Rattle.verify_run.proofs.Sights.{result_seen, result_honest}
use Rattle.verify_run.proofs.verifying.verify.Goals as goal

pub returns-clause-verified : goal.returns-clause-verified
returns-clause-verified g c = result_verified c.verify_listed.result _ _ _ _ _ (verified_as c.verify_listed.result _ _ _ _ _ _ _ c.deref.ensures.value c.as_str.ensures.same c.verify_listed.ensures)

pub returns-clause-lines : goal.returns-clause-lines
returns-clause-lines g c = result_lines c.verify_listed.result _ _ _ _ _ (verified_as c.verify_listed.result _ _ _ _ _ _ _ c.deref.ensures.value c.as_str.ensures.same c.verify_listed.ensures)

pub returns-clause-numbers : goal.returns-clause-numbers
returns-clause-numbers g c = result_numbers c.verify_listed.result _ _ _ _ _ (verified_as c.verify_listed.result _ _ _ _ _ _ _ c.deref.ensures.value c.as_str.ensures.same c.verify_listed.ensures)

pub returns-clause-seen : goal.returns-clause-seen
returns-clause-seen g c = result_seen c.verify_listed.result _ _ _ _ _ (verified_as c.verify_listed.result _ _ _ _ _ _ _ c.deref.ensures.value c.as_str.ensures.same c.verify_listed.ensures)

pub returns-clause-honest : goal.returns-clause-honest
returns-clause-honest g c = result_honest c.verify_listed.result _ _ _ _ _ (verified_as c.verify_listed.result _ _ _ _ _ _ _ c.deref.ensures.value c.as_str.ensures.same c.verify_listed.ensures)

pub returns-clause-begun : goal.returns-clause-begun
returns-clause-begun g c = result_begun c.verify_listed.result _ _ _ _ _ (verified_as c.verify_listed.result _ _ _ _ _ _ _ c.deref.ensures.value c.as_str.ensures.same c.verify_listed.ensures)

pub returns-clause-memory : goal.returns-clause-memory
returns-clause-memory g c = result_memory c.verify_listed.result _ _ _ _ _ (verified_as c.verify_listed.result _ _ _ _ _ _ _ c.deref.ensures.value c.as_str.ensures.same c.verify_listed.ensures)
