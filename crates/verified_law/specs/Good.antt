-- What a verification says of a drive that was sealed: docs/FORMATS.md, "Verification".
use Rattle.std.specs.Prelude.{◌≡◌, ℕ}
use Rattle.verify_run.specs.declared.verdict.Verdict.{Verdict}
use Rattle.verify_run.specs.declared.verdict.Outcome.TheVariants.{AllGood}
use Rattle.verify_run.specs.Report.{outcome_of}

-- a good report on a list of this many files: each of them is checked, and none is missing, altered or unchecked
pub record IsGood (files : ℕ) (v : Verdict) : Type 0 where
  pub entries : v.entries ≡ files
  pub missing : v.missing ≡ 0
  pub altered : v.altered ≡ 0
  pub unchecked : v.unchecked ≡ 0
  pub outcome : outcome_of v ≡ AllGood
