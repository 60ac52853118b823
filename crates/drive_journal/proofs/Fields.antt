-- The bytes of a record, as its fields are put in.
use Rattle.std.proofs.Common.{◌≡◌, ℕ, ◌+◌, List, [], ◌++◌, length, take, drop, refl, ap, ◌∙◌, arith, length-append}
use Rattle.std.proofs.lemmas.List.{take_at}
use Rattle.std.proofs.lemmas.Slice.{drop-append-drop}
use Rattle.std.specs.Int.{to_be_bytes, w32, w64}
use Rattle.drive_journal.specs.declared.record.Rec.{Rec}
use Rattle.drive_journal.specs.Record.{record_code}

-- a field behind those that stand at the front
put_next : (base code field old new : List ℕ) (at : ℕ) → length code ≡ at → old ≡ code ++ drop at base → new ≡ take at old ++ field ++ drop (at + length field) old → new ≡ code ++ field ++ drop (at + length field) base
put_next base code field old new at long is put =
    let front : take at old ≡ code = ap (take at) is ∙ take_at code (drop at base) at long in
    let rest : drop (at + length field) old ≡ drop (at + length field) base = ap (drop (at + length field)) is ∙ drop-append-drop at base code (at + length field) (omega arith) long in
    put ∙ ap (λ (l : List ℕ). l ++ field ++ drop (at + length field) old) front ∙ ap (λ (l : List ℕ). code ++ field ++ l) rest

put_behind : (base code field old new : List ℕ) (at n : ℕ) → length code ≡ at → length field ≡ n → old ≡ code ++ drop at base → new ≡ take at old ++ field ++ drop (at + length field) old
    → (new ≡ code ++ field ++ drop (at + n) base) × (length (code ++ field) ≡ at + n)
put_behind base code field old new at n long size is put = (
  put_next base code field old new at long is put ∙ ap (λ (k : ℕ). code ++ field ++ drop (at + k) base) size,
  omega (arith, length-append code field),
)

-- the sizes of a record's digests
pub record Sized (rec : Rec) : Type 0 where
  pub md5 : length rec.triple.md5 ≡ 16
  pub sha1 : length rec.triple.sha1 ≡ 20
  pub xxh : length rec.triple.xxh ≡ 8

pub length-record_code : (rec : Rec) → Sized rec → length (record_code rec) ≡ 64
unfolding record_code
length-record_code rec sized =
    let index = to_be_bytes w32 rec.index in
    let size = to_be_bytes w64 rec.size in
    let hashed = to_be_bytes w64 rec.hashed in
    let a : length (index ++ size) ≡ 12 = refl in
    let b : length (index ++ size ++ rec.triple.md5) ≡ 28 = length-append (index ++ size) rec.triple.md5 ∙ ap (λ (n : ℕ). 12 + n) sized.md5 in
    let c : length (index ++ size ++ rec.triple.md5 ++ rec.triple.sha1) ≡ 48 = omega (arith, b, sized.sha1, length-append (index ++ size ++ rec.triple.md5) rec.triple.sha1) in
    let d : length (index ++ size ++ rec.triple.md5 ++ rec.triple.sha1 ++ rec.triple.xxh) ≡ 56 = omega (arith, c, sized.xxh, length-append (index ++ size ++ rec.triple.md5 ++ rec.triple.sha1) rec.triple.xxh) in
    length-append (index ++ size ++ rec.triple.md5 ++ rec.triple.sha1 ++ rec.triple.xxh) hashed ∙ ap (λ (n : ℕ). n + 8) d

-- the fields put in one behind another
pub record Put (zeros index size md5 sha1 xxh hashed one two three four five all : List ℕ) : Type 0 where
  pub first : one ≡ take 0 zeros ++ index ++ drop (0 + length index) zeros
  pub second : two ≡ take 4 one ++ size ++ drop (4 + length size) one
  pub third : three ≡ take 12 two ++ md5 ++ drop (12 + length md5) two
  pub fourth : four ≡ take 28 three ++ sha1 ++ drop (28 + length sha1) three
  pub fifth : five ≡ take 48 four ++ xxh ++ drop (48 + length xxh) four
  pub sixth : all ≡ take 56 five ++ hashed ++ drop (56 + length hashed) five

pub put_all : (zeros index size md5 sha1 xxh hashed one two three four five all : List ℕ) → Put zeros index size md5 sha1 xxh hashed one two three four five all
    → length index ≡ 4 → length size ≡ 8 → length md5 ≡ 16 → length sha1 ≡ 20 → length xxh ≡ 8 → length hashed ≡ 8
    → all ≡ index ++ size ++ md5 ++ sha1 ++ xxh ++ hashed ++ drop 64 zeros
put_all zeros index size md5 sha1 xxh hashed one two three four five all put a b c d e f =
    let s1 = put_behind zeros [] index zeros one 0 4 refl a refl put.first in
    let s2 = put_behind zeros index size one two 4 8 a b s1.0 put.second in
    let s3 = put_behind zeros (index ++ size) md5 two three 12 16 s2.1 c s2.0 put.third in
    let s4 = put_behind zeros (index ++ size ++ md5) sha1 three four 28 20 s3.1 d s3.0 put.fourth in
    let s5 = put_behind zeros (index ++ size ++ md5 ++ sha1) xxh four five 48 8 s4.1 e s4.0 put.fifth in
    let s6 = put_behind zeros (index ++ size ++ md5 ++ sha1 ++ xxh) hashed five all 56 8 s5.1 f s5.0 put.sixth in
    s6.0
