-- What a run has been fed: one list, however it was cut.
use Rattle.std.specs.Prelude.{◌≡◌, ℕ, List}
use Rattle.md5.specs.Md5.{Holds as HoldsMd5}
use Rattle.sha1.specs.Sha1.{Holds as HoldsSha1}
use Rattle.xxh64_stream.specs.State.{state_of}
use Rattle.digest_set.specs.declared.fan.Fan.{Fan}
use Rattle.digest_set.specs.declared.runs.Md5Run.{Md5Run}
use Rattle.digest_set.specs.declared.runs.Sha1Run.{Sha1Run}
use Rattle.digest_set.specs.declared.runs.XxhRun.{XxhRun}

-- the hasher of an MD5 run holds this list
abbrev pub Md5Fed : Md5Run → List ℕ → Type 0
Md5Fed run bytes = HoldsMd5 run.hasher bytes

-- the hasher of a SHA-1 run holds this list
abbrev pub Sha1Fed : Sha1Run → List ℕ → Type 0
Sha1Fed run bytes = HoldsSha1 run.hasher bytes

-- the hasher of an XXH64 run, whose seed is 0, is as after this list
abbrev pub XxhFed : XxhRun → List ℕ → Type 0
XxhFed run bytes = run.hasher ≡ state_of 0 bytes

-- each of the three runs of a fan has been fed this one list
abbrev pub AllFed : {A B C : Type 0} → (A → List ℕ → Type 0) → (B → List ℕ → Type 0) → (C → List ℕ → Type 0) → Fan A B C → List ℕ → Type 0
AllFed FirstFed SecondFed ThirdFed fan bytes = FirstFed fan.first bytes × SecondFed fan.second bytes × ThirdFed fan.third bytes
