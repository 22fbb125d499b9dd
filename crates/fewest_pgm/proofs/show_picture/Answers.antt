-- The width and height of a header that is accepted are 1 to 4096, its length at most 65536.
use Rattle.std.proofs.Common.{◌≡◌, List, ℕ, ◌+◌, ◌*◌, ◌≤◌, sym, ap, ◌∙◌, arith}
use native.Mathlib.Nat.{mul-le-mul}
use Rattle.pgm.specs.Header.{Header, header_of}
use Rattle.pgm.specs.Reader.{told}
use Rattle.pgm.proofs.Exact.{accepts, accepted-sizes}
use Rattle.fewest_pgm.proofs.show_picture.Goals as goal

sizes : (bytes : List ℕ) (n w h : ℕ) → header_of bytes ≡ Header w h n → (w ≤ 4096) × (h ≤ 4096)
sizes bytes n w h e = let s = accepted-sizes bytes n w h e in (s.0.1, s.1.1)

end : (bytes : List ℕ) (n w h : ℕ) → header_of bytes ≡ Header w h n → n + w * h ≤ 16842752
end bytes n w h e =
    let s = sizes bytes n w h e in
    omega (arith, mul-le-mul s.0 s.1, ((accepts bytes n w h).0 e).0.limit)

pub overflow_mul-end : goal.overflow_mul-end
overflow_mul-end g c =
    record { fits = omega (arith, end _ _ _ _ (sym c.header_of.ensures ∙ ap told c.in-Ok.is)) }

pub overflow_add-end : goal.overflow_add-end
overflow_add-end g c =
    record { fits = omega (arith, end _ _ _ _ (sym c.header_of.ensures ∙ ap told c.in-Ok.is)) }

pub show-requires : goal.show-requires
show-requires g c = sizes _ _ _ _ (sym c.header_of.ensures ∙ ap told c.in-Ok.is)
