use Rattle.std.proofs.Common.{◌≡◌, ◌*◌, ◌≤◌, true, false, List, ℕ, length, take, refl, arith, ap}
use Rattle.std.proofs.lemmas.List.{length-take}
use Rattle.mhl_writer.proofs.lines.put_digest.Goals as goal

-- there is room for just twice as many digits as there are bytes
not_refused : (n : ℕ) (zeros digest : List ℕ) → length zeros ≡ 40 → n ≤ 20 → length digest ≡ n → (length (take (2 * n) zeros) ≡ 2 * length digest → false ≡ true) → ⊥
not_refused n zeros digest long small is fits = let e = fits (omega (arith, length-take (2 * n) zeros)) in cc

pub unreachable-requires : goal.unreachable-requires
unreachable-requires g c = not_refused g.row.N _ c.as_slice.result.now refl c.requires.size (omega (arith, ap length c.as_slice.ensures)) c.in-Err.ensures.fits.1
