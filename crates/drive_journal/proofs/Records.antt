-- The fields of a record, one behind another.
use Rattle.std.proofs.Common.{◌≡◌, ℕ, List, ◌++◌, length, sym, ◌∙◌, ap, arith, append_assoc, length-append}
use Rattle.std.specs.Int.{w32, w64, to_be_bytes}
use Rattle.digest_set.specs.declared.triple.Triple.{Triple}
use Rattle.copy_plan.specs.declared.file.PlannedFile.{PlannedFile}
use Rattle.copy_plan.specs.Fields.{Begins, BeginsNone, IsNumber, IsMoment, moment_code}
use Rattle.copy_plan.proofs.Exact.{Exact, same_front, four_bytes_exact, eight_bytes_exact, moment_exact}
use Rattle.copy_plan.proofs.Taking.{Parts, none_of, other_of}
use Rattle.drive_journal.specs.declared.record.Rec.{Rec}
use Rattle.drive_journal.specs.Record.{record_code}
use Rattle.drive_journal.specs.Journal.{IsShape, IsRecord}
use Rattle.drive_journal.specs.Reading.{IsTriple, triple_code}

pub triple_exact : Exact IsTriple triple_code
triple_exact = record {
  one = λ a b r s x y e.
      let regroup : (t : Triple) (rest : List ℕ) → triple_code t ++ rest ≡ t.md5 ++ (t.sha1 ++ (t.xxh ++ rest)) = λ t rest. append_assoc t.md5 (t.sha1 ++ t.xxh) rest ∙ ap (λ (l : List ℕ). t.md5 ++ l) (append_assoc t.sha1 t.xxh rest) in
      let md5 = same_front a.md5 b.md5 (a.sha1 ++ (a.xxh ++ r)) (b.sha1 ++ (b.xxh ++ s)) (x.md5 ∙ sym y.md5) (sym (regroup a r) ∙ e ∙ regroup b s) in
      let sha1 = same_front a.sha1 b.sha1 (a.xxh ++ r) (b.xxh ++ s) (x.sha1 ∙ sym y.sha1) md5.1 in
      let xxh = same_front a.xxh b.xxh r s (x.xxh ∙ sym y.xxh) sha1.1 in
      ((λ i. record { md5 = md5.0 i; sha1 = sha1.0 i; xxh = xxh.0 i }), xxh.1);
}

pub triple_begins : (bytes md5 a sha1 b xxh c : List ℕ) → Parts 16 bytes md5 a → Parts 20 a sha1 b → Parts 8 b xxh c → Begins IsTriple triple_code bytes (record { md5 = md5; sha1 = sha1; xxh = xxh }) c
triple_begins bytes md5 a sha1 b xxh c x y z = record {
  kept = record { md5 = x.long; sha1 = y.long; xxh = z.long };
  is = x.whole ∙ ap (λ (l : List ℕ). md5 ++ l) (y.whole ∙ ap (λ (l : List ℕ). sha1 ++ l) z.whole) ∙ sym (append_assoc md5 (sha1 ++ xxh) c ∙ ap (λ (l : List ℕ). md5 ++ l) (append_assoc sha1 xxh c));
}

regroup : (a b c d e f rest : List ℕ) → (a ++ b ++ c ++ d ++ e ++ f) ++ rest ≡ a ++ (b ++ ((c ++ (d ++ e)) ++ (f ++ rest)))
regroup a b c d e f rest = simp append_assoc

-- a record: its number, its size, its digests and its moment
pub record_fields : (r : Rec) (rest : List ℕ) → record_code r ++ rest ≡ to_be_bytes w32 r.index ++ (to_be_bytes w64 r.size ++ (triple_code r.triple ++ (moment_code r.hashed ++ rest)))
unfolding record_code moment_code
record_fields r rest = regroup (to_be_bytes w32 r.index) (to_be_bytes w64 r.size) r.triple.md5 r.triple.sha1 r.triple.xxh (to_be_bytes w64 r.hashed) rest

shape_triple : (r : Rec) → IsShape r → IsTriple r.triple
shape_triple r is = record { md5 = is.md5; sha1 = is.sha1; xxh = is.xxh }

pub record_begins : (bytes a b c d : List ℕ) (index size hashed : ℕ) (triple : Triple) → Begins (IsNumber 32) (to_be_bytes w32) bytes index a → Begins (IsNumber 64) (to_be_bytes w64) a size b → Begins IsTriple triple_code b triple c → Begins IsMoment moment_code c hashed d
    → Begins IsShape record_code bytes (record { index = index; size = size; triple = triple; hashed = hashed }) d
record_begins bytes a b c d index size hashed triple n s t m = record {
  kept = record { index = n.kept; size = s.kept; md5 = t.kept.md5; sha1 = t.kept.sha1; xxh = t.kept.xxh; hashed = m.kept };
  is = n.is ∙ ap (λ (l : List ℕ). to_be_bytes w32 index ++ l) (s.is ∙ ap (λ (l : List ℕ). to_be_bytes w64 size ++ l) (t.is ∙ ap (λ (l : List ℕ). triple_code triple ++ l) m.is))
      ∙ sym (record_fields (record { index = index; size = size; triple = triple; hashed = hashed }) d);
}

-- what stands behind the first fields of a record that stands there
pub index_of : (bytes : List ℕ) (r : Rec) (rest : List ℕ) → Begins IsShape record_code bytes r rest → Begins (IsNumber 32) (to_be_bytes w32) bytes r.index (to_be_bytes w64 r.size ++ (triple_code r.triple ++ (moment_code r.hashed ++ rest)))
index_of bytes r rest begins = record { kept = begins.kept.index; is = begins.is ∙ record_fields r rest }

pub no_index : (bytes : List ℕ) → BeginsNone (IsNumber 32) (to_be_bytes w32) bytes → BeginsNone IsShape record_code bytes
no_index bytes none r rest begins = let index = index_of bytes r rest begins in none r.index _ index

size_of : (bytes a : List ℕ) (index : ℕ) (r : Rec) (rest : List ℕ) → Begins (IsNumber 32) (to_be_bytes w32) bytes index a → Begins IsShape record_code bytes r rest → Begins (IsNumber 64) (to_be_bytes w64) a r.size (triple_code r.triple ++ (moment_code r.hashed ++ rest))
size_of bytes a index r rest n begins =
    let other = index_of bytes r rest begins in
    let same = four_bytes_exact.one index r.index a (to_be_bytes w64 r.size ++ (triple_code r.triple ++ (moment_code r.hashed ++ rest))) n.kept other.kept (sym n.is ∙ other.is) in
    record { kept = begins.kept.size; is = same.1 }

pub no_size : (bytes a : List ℕ) (index : ℕ) → Begins (IsNumber 32) (to_be_bytes w32) bytes index a → BeginsNone (IsNumber 64) (to_be_bytes w64) a → BeginsNone IsShape record_code bytes
no_size bytes a index n none r rest begins = let size = size_of bytes a index r rest n begins in none r.size _ size

digests_of : (bytes a b : List ℕ) (index size : ℕ) (r : Rec) (rest : List ℕ) → Begins (IsNumber 32) (to_be_bytes w32) bytes index a → Begins (IsNumber 64) (to_be_bytes w64) a size b → Begins IsShape record_code bytes r rest → Begins IsTriple triple_code b r.triple (moment_code r.hashed ++ rest)
digests_of bytes a b index size r rest n s begins =
    let other = size_of bytes a index r rest n begins in
    let same = eight_bytes_exact.one size r.size b (triple_code r.triple ++ (moment_code r.hashed ++ rest)) s.kept other.kept (sym s.is ∙ other.is) in
    record { kept = shape_triple r begins.kept; is = same.1 }

pub no_digests : (bytes a b : List ℕ) (index size : ℕ) → Begins (IsNumber 32) (to_be_bytes w32) bytes index a → Begins (IsNumber 64) (to_be_bytes w64) a size b → BeginsNone IsTriple triple_code b → BeginsNone IsShape record_code bytes
no_digests bytes a b index size n s none r rest begins = let digests = digests_of bytes a b index size r rest n s begins in none r.triple _ digests

pub no_moment : (bytes a b c : List ℕ) (index size : ℕ) (triple : Triple) → Begins (IsNumber 32) (to_be_bytes w32) bytes index a → Begins (IsNumber 64) (to_be_bytes w64) a size b → Begins IsTriple triple_code b triple c → BeginsNone IsMoment moment_code c → BeginsNone IsShape record_code bytes
no_moment bytes a b c index size triple n s t none r rest begins =
    let other = digests_of bytes a b index size r rest n s begins in
    let same = triple_exact.one triple r.triple c (moment_code r.hashed ++ rest) t.kept other.kept (sym t.is ∙ other.is) in
    none r.hashed rest (record { kept = begins.kept.hashed; is = same.1 })

-- two records that begin the same bytes are the same
pub record_exact : Exact IsShape record_code
record_exact = record {
  one = λ a b r s x y e.
      let ea = sym (record_fields a r) ∙ e ∙ record_fields b s in
      let index = four_bytes_exact.one a.index b.index (to_be_bytes w64 a.size ++ (triple_code a.triple ++ (moment_code a.hashed ++ r))) (to_be_bytes w64 b.size ++ (triple_code b.triple ++ (moment_code b.hashed ++ s))) x.index y.index ea in
      let size = eight_bytes_exact.one a.size b.size (triple_code a.triple ++ (moment_code a.hashed ++ r)) (triple_code b.triple ++ (moment_code b.hashed ++ s)) x.size y.size index.1 in
      let triple = triple_exact.one a.triple b.triple (moment_code a.hashed ++ r) (moment_code b.hashed ++ s) (shape_triple a x) (shape_triple b y) size.1 in
      let hashed = moment_exact.one a.hashed b.hashed r s x.hashed y.hashed triple.1 in
      ((λ i. record { index = index.0 i; size = size.0 i; triple = triple.0 i; hashed = hashed.0 i }), hashed.1);
}

pub length-record : (r : Rec) → IsShape r → length (record_code r) ≡ 64
unfolding record_code
length-record r is =
    let a = to_be_bytes w32 r.index in
    let b = to_be_bytes w64 r.size in
    let f = to_be_bytes w64 r.hashed in
    omega (arith, length-append (a ++ b ++ r.triple.md5 ++ r.triple.sha1 ++ r.triple.xxh) f, length-append (a ++ b ++ r.triple.md5 ++ r.triple.sha1) r.triple.xxh, length-append (a ++ b ++ r.triple.md5) r.triple.sha1, length-append (a ++ b) r.triple.md5, length-append a b, is.md5, is.sha1, is.xxh)

record_shape : (j : ℕ) (f : PlannedFile) (r : Rec) → IsRecord j f r → IsShape r
record_shape j f r is = is.shape

pub record_none : (j : ℕ) (f : PlannedFile) (bytes : List ℕ) → BeginsNone IsShape record_code bytes → BeginsNone (IsRecord j f) record_code bytes
record_none j f bytes none = none_of bytes (record_shape j f) none

pub record_other : (j : ℕ) (f : PlannedFile) (bytes : List ℕ) (r : Rec) (rest : List ℕ) → Begins IsShape record_code bytes r rest → (IsRecord j f r → ⊥) → BeginsNone (IsRecord j f) record_code bytes
record_other j f bytes r rest begins not = other_of record_exact bytes r rest (record_shape j f) begins not

pub record_of : (j : ℕ) (f : PlannedFile) (bytes : List ℕ) (r : Rec) (rest : List ℕ) → Begins IsShape record_code bytes r rest → r.index ≡ j → r.size ≡ f.size → Begins (IsRecord j f) record_code bytes r rest
record_of j f bytes r rest begins index size = record { kept = record { shape = begins.kept; index = index; size = size }; is = begins.is }

pub one_record : (j : ℕ) (f : PlannedFile) → Exact (IsRecord j f) record_code
one_record j f = record { one = λ a b r s x y e. record_exact.one a b r s x.shape y.shape e }
