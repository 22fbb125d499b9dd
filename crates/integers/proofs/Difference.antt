-- The integers as differences of naturals: `dif a b` is a - b. An equation or an order of ℤ becomes one of ℕ, which `omega` reads:
-- an identity is `by-dif _ λ a b. .. simp differences (dif-eq _ _ _ _ (omega arith))`, an order of absolute values ends in `simp differences (omega arith)`.
-- Assumes nothing.
use mathlib.Core.Path.{◌≡◌, refl, sym, ◌∙◌, ap, subst}
use mathlib.Core.Bool.{Bool, true, false, not, cond}
use Prim.Native.Nat.{ℕ, zero, suc, ◌+◌, ◌*◌, ◌-◌}
use native.Mathlib.Omega.{arith}
use lib.IntN.{ℤ, pos, negsuc, sub_ℕ, neg_ℤ, ◌+ℤ◌, ◌-ℤ◌, ◌*ℤ◌, nat_abs}
use lib.Dec.{T, ltb, ltb→lt, nltb→le}

pub dif : ℕ → ℕ → ℤ
dif a b = sub_ℕ a b

cond_ind : (c : Bool) (x y : ℤ) (P : ℤ → Type 0) → (T c → P x) → (T (not c) → P y) → P (cond c x y)
cond_ind true x y P f g = f tt
cond_ind false x y P f g = g tt

-- a - b is some k, and a is b + k; or it is some -(k + 1), and b is a + (k + 1)
pub dif-ind : (P : ℕ → ℕ → ℤ → Type 0) → ((b k : ℕ) → P (b + k) b (pos k)) → ((a k : ℕ) → P a (a + suc k) (negsuc k)) → (a b : ℕ) → P a b (dif a b)
unfolding dif
dif-ind P f g a b =
    cond_ind (ltb a b) (negsuc (b - suc a)) (pos (a - b)) (P a b)
    (λ t. let h = ltb→lt a b t in let e : a + suc (b - suc a) ≡ b = omega arith in subst (λ (n : ℕ). P a n (negsuc (b - suc a))) e (g a (b - suc a)))
    (λ t. let h = nltb→le a b t in let e : b + (a - b) ≡ a = omega arith in subst (λ (n : ℕ). P n b (pos (a - b))) e (f b (a - b)))

pub dif_pos : (a b k : ℕ) → a ≡ b + k → dif a b ≡ pos k
dif_pos a b k =
    dif-ind (λ a b z. a ≡ b + k → z ≡ pos k)
    (λ b n e. ap pos (let e' : b + n ≡ b + k = e in omega arith))
    (λ a n e. absurd (let e' : a ≡ a + suc n + k = e in omega arith)) a b

pub dif_neg : (a b k : ℕ) → b ≡ a + suc k → dif a b ≡ negsuc k
dif_neg a b k =
    dif-ind (λ a b z. b ≡ a + suc k → z ≡ negsuc k)
    (λ b n e. absurd (let e' : b ≡ b + n + suc k = e in omega arith))
    (λ a n e. ap negsuc (let e' : a + suc n ≡ a + suc k = e in omega arith)) a b

pub dif-eq : (a b c d : ℕ) → a + d ≡ c + b → dif a b ≡ dif c d
dif-eq a b c d =
    dif-ind (λ c d z. a + d ≡ c + b → dif a b ≡ z)
    (λ d k e. dif_pos a b k (let e' : a + d ≡ d + k + b = e in omega arith))
    (λ c k e. dif_neg a b k (let e' : a + (c + suc k) ≡ c + b = e in omega arith)) c d

pub pos-dif : (n : ℕ) → pos n ≡ dif n 0
pos-dif n = sym (dif_pos n 0 n (omega arith))

pub negsuc-dif : (n : ℕ) → negsuc n ≡ dif 0 (suc n)
negsuc-dif n = sym (dif_neg 0 (suc n) n (omega arith))

pub dif-add : (a b c d : ℕ) → dif a b +ℤ dif c d ≡ dif (a + c) (b + d)
unfolding dif
dif-add a b c d =
    dif-ind (λ a b z. z +ℤ dif c d ≡ dif (a + c) (b + d))
    (λ b k. dif-ind (λ c d z. pos k +ℤ z ≡ dif (b + k + c) (b + d))
    (λ d l. sym (dif_pos (b + k + (d + l)) (b + d) (k + l) (omega arith)))
    (λ c l. dif-eq k (suc l) (b + k + c) (b + (c + suc l)) (omega arith)) c d)
    (λ a k. dif-ind (λ c d z. negsuc k +ℤ z ≡ dif (a + c) (a + suc k + d))
    (λ d l. dif-eq l (suc k) (a + (d + l)) (a + suc k + d) (omega arith))
    (λ c l. sym (dif_neg (a + c) (a + suc k + (c + suc l)) (suc (k + l)) (omega arith))) c d) a b

pub neg-dif : (n : ℕ) → neg_ℤ (pos n) ≡ dif 0 n
neg-dif zero = sym (dif_pos 0 0 0 refl)
neg-dif (suc n) = sym (dif_neg 0 (suc n) n (omega arith))

pub dif-opposite : (a b : ℕ) → neg_ℤ (dif a b) ≡ dif b a
dif-opposite =
    dif-ind (λ a b z. neg_ℤ z ≡ dif b a)
    (λ b k. neg-dif k ∙ dif-eq 0 k b (b + k) (omega arith))
    (λ a k. sym (dif_pos (a + suc k) a (suc k) refl))

pub dif-mul : (a b c d : ℕ) → dif a b *ℤ dif c d ≡ dif (a * c + b * d) (a * d + b * c)
dif-mul a b c d =
    dif-ind (λ a b z. z *ℤ dif c d ≡ dif (a * c + b * d) (a * d + b * c))
    (λ b k. dif-ind (λ c d z. pos k *ℤ z ≡ dif ((b + k) * c + b * d) ((b + k) * d + b * c))
    (λ d l. sym (dif_pos _ _ (k * l) (omega arith)))
    (λ c l. neg-dif (k * suc l) ∙ dif-eq _ _ _ _ (omega arith)) c d)
    (λ a k. dif-ind (λ c d z. negsuc k *ℤ z ≡ dif (a * c + (a + suc k) * d) (a * d + (a + suc k) * c))
    (λ d l. neg-dif (suc k * l) ∙ dif-eq _ _ _ _ (omega arith))
    (λ c l. sym (dif_pos _ _ (suc k * suc l) (omega arith))) c d) a b

pub dif-abs : (a b : ℕ) → nat_abs (dif a b) ≡ (a - b) + (b - a)
dif-abs = dif-ind (λ a b z. nat_abs z ≡ (a - b) + (b - a)) (λ b k. omega arith) (λ a k. omega arith)

up : ℤ → ℕ
up (pos n) = n
up (negsuc n) = 0

down : ℤ → ℕ
down (pos n) = 0
down (negsuc n) = suc n

dif-out : (a b : ℕ) → up (dif a b) + b ≡ a + down (dif a b)
unfolding up down
dif-out = dif-ind (λ a b z. up z + b ≡ a + down z) (λ b k. omega arith) (λ a k. omega arith)

pub dif-inj : (a b c d : ℕ) → dif a b ≡ dif c d → a + d ≡ c + b
dif-inj a b c d e = omega (arith, dif-out a b, dif-out c d, ap up e, ap down e)

-- every integer is a difference
pub by-dif : (P : ℤ → Type 0) → ((a b : ℕ) → P (dif a b)) → (z : ℤ) → P z
by-dif P f (pos n) = subst P (dif_pos n 0 n (omega arith)) (f n 0)
by-dif P f (negsuc n) = subst P (dif_neg 0 (suc n) n (omega arith)) (f 0 (suc n))

pub ruleset differences = (dif-add, dif-mul, dif-opposite, dif-abs, pos-dif, negsuc-dif, neg-dif)

pub distance : (n k : ℕ) → nat_abs (pos n -ℤ pos k) ≡ (n - k) + (k - n)
distance n k = simp differences (omega arith)
