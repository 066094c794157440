-- Whole numbers of either sign: the ring laws that `lib.IntN` lacks, and the laws of the order that `lib.Signed` lacks. Each is `diff a b`, a − b for two naturals; sums and
-- products of differences are differences, so that each law is one of naturals, which `omega` proves.
use Rattle.std.specs.Prelude.{◌≡◌, refl, Bool, true, false, not, cond, ◌⊎◌, ℕ, zero, suc, ◌+◌, ◌*◌, ◌-◌, ◌<◌, ◌≤◌, T, ltb, ℤ, pos, negsuc, ◌+ℤ◌, ◌*ℤ◌, neg_ℤ, ◌≤ℤ◌, ◌<ℤ◌}
use Rattle.std.proofs.Common.{sym, ◌∙◌, ap, subst, inl, inr, mul-pos, zero-lt-suc, le_of_lt, le_of_mul-le-mul_right, arith, ltb→lt, lt→ltb, nltb→le, leb→le, le→leb}
use Rattle.std.proofs.Math.Dec.{nleb→lt}
use Rattle.std.proofs.Math.IntN.{sub_ℕ}
use Rattle.std.specs.Int.Signed.{le_z, lt_z, le_z_yes, lt_z_yes}

-- ---- a number is at most another, or above it
le_z-no : (x y : ℤ) → T (not (le_z x y)) → T (lt_z y x)
le_z-no (pos a) (pos b) t = lt→ltb b a (nleb→lt a b t)
le_z-no (pos a) (negsuc b) t = tt
le_z-no (negsuc a) (pos b) t = absurd t
le_z-no (negsuc a) (negsuc b) t = lt→ltb a b (nleb→lt b a t)

pub not-≤ℤ : (x y : ℤ) → T (not (le_z x y)) → y <ℤ x
not-≤ℤ x y t = lt_z_yes (le_z-no x y t)

pub ≤ℤ-or : (x y : ℤ) → (x ≤ℤ y) ⊎ (y <ℤ x)
≤ℤ-or x y = go (le_z x y) le_z_yes (not-≤ℤ x y)
  where
    go : (b : Bool) → (T b → x ≤ℤ y) → (T (not b) → y <ℤ x) → (x ≤ℤ y) ⊎ (y <ℤ x)
    go true f g = inl (f tt)
    go false f g = inr (g tt)

lt_z-le_z : (x y : ℤ) → T (lt_z x y) → T (le_z x y)
lt_z-le_z (pos a) (pos b) t = le→leb a b (le_of_lt (ltb→lt a b t))
lt_z-le_z (pos a) (negsuc b) t = t
lt_z-le_z (negsuc a) (pos b) t = tt
lt_z-le_z (negsuc a) (negsuc b) t = le→leb b a (le_of_lt (ltb→lt b a t))

pub <ℤ-≤ℤ : (x y : ℤ) → x <ℤ y → x ≤ℤ y
<ℤ-≤ℤ x y h = le_z_yes (lt_z-le_z x y h.lt)

-- the order of naturals
pub pos-≤ : {a b : ℕ} → a ≤ b → pos a ≤ℤ pos b
pos-≤ {a} {b} h = le_z_yes (le→leb a b h)

pub ≤-pos : {a b : ℕ} → pos a ≤ℤ pos b → a ≤ b
≤-pos {a} {b} h = leb→le a b h.le

pub pos-< : {a b : ℕ} → a < b → pos a <ℤ pos b
pos-< {a} {b} h = lt_z_yes (lt→ltb a b h)

pub <-pos : {a b : ℕ} → pos a <ℤ pos b → a < b
<-pos {a} {b} h = ltb→lt a b h.lt

negsuc-≤ : (a b : ℕ) → b ≤ a → negsuc a ≤ℤ negsuc b
negsuc-≤ a b h = le_z_yes (le→leb b a h)

≤-negsuc : (a b : ℕ) → negsuc a ≤ℤ negsuc b → b ≤ a
≤-negsuc a b h = leb→le b a h.le

-- ---- differences
cond_ind : (c : Bool) (x y : ℤ) (P : ℤ → Type 0) → (T c → P x) → (T (not c) → P y) → P (cond c x y)
cond_ind true x y P f g = f tt
cond_ind false x y P f g = g tt

-- a − b by cases
sub_ind : (a b : ℕ) (P : ℤ → Type 0) → ((k : ℕ) → b ≡ a + suc k → P (negsuc k)) → ((k : ℕ) → a ≡ b + k → P (pos k)) → P (sub_ℕ a b)
sub_ind a b P f g = cond_ind (ltb a b) (negsuc (b - suc a)) (pos (a - b)) P
    (λ t. let h : a < b = ltb→lt a b t in f (b - suc a) (omega arith))
    (λ t. let h : b ≤ a = nltb→le a b t in g (a - b) (omega arith))

-- a − b, shut
diff : ℕ → ℕ → ℤ
diff a b = sub_ℕ a b

-- both numbers vary with the case
diff_view : (Q : ℕ → ℕ → ℤ → Type 0) → ((b k : ℕ) → Q (b + k) b (pos k)) → ((a k : ℕ) → Q a (a + suc k) (negsuc k)) → (a b : ℕ) → Q a b (diff a b)
unfolding diff
diff_view Q f g a b = sub_ind a b (Q a b)
    (λ k e. subst (λ (n : ℕ). Q a n (negsuc k)) (sym e) (g a k))
    (λ k e. subst (λ (n : ℕ). Q n b (pos k)) (sym e) (f b k))

pos_is : (k a b : ℕ) → a ≡ b + k → pos k ≡ diff a b
unfolding diff
pos_is k a b h = sub_ind a b (λ z. pos k ≡ z) (λ l e. absurd (omega arith)) (λ l e. ap pos (omega arith))

negsuc_is : (k a b : ℕ) → b ≡ a + suc k → negsuc k ≡ diff a b
unfolding diff
negsuc_is k a b h = sub_ind a b (λ z. negsuc k ≡ z) (λ l e. ap negsuc (omega arith)) (λ l e. absurd (omega arith))

negpos_is : (m a b : ℕ) → b ≡ a + m → neg_ℤ (pos m) ≡ diff a b
negpos_is zero a b h = pos_is 0 a b (omega arith)
negpos_is (suc m) a b h = negsuc_is m a b h

-- two differences are equal where the cross sums are
diff_eq : (a b c d : ℕ) → a + d ≡ c + b → diff a b ≡ diff c d
diff_eq = diff_view (λ a b z. (c d : ℕ) → a + d ≡ c + b → z ≡ diff c d)
    (λ b k c d h. pos_is k c d (omega arith)) (λ a k c d h. negsuc_is k c d (omega arith))

neg_diff : (a b : ℕ) → neg_ℤ (diff a b) ≡ diff b a
neg_diff = diff_view (λ a b z. neg_ℤ z ≡ diff b a) (λ b k. negpos_is k b (b + k) refl) (λ a k. pos_is (suc k) (a + suc k) a refl)

add_diff : (a b c d : ℕ) → diff a b +ℤ diff c d ≡ diff (a + c) (b + d)
unfolding diff
add_diff = diff_view (λ a b z. (c d : ℕ) → z +ℤ diff c d ≡ diff (a + c) (b + d))
    (λ b k. diff_view (λ c d w. pos k +ℤ w ≡ diff ((b + k) + c) (b + d))
    (λ d l. pos_is (k + l) ((b + k) + (d + l)) (b + d) (omega arith))
    (λ c l. diff_eq k (suc l) ((b + k) + c) (b + (c + suc l)) (omega arith)))
    (λ a k. diff_view (λ c d w. negsuc k +ℤ w ≡ diff (a + c) ((a + suc k) + d))
    (λ d l. diff_eq l (suc k) (a + (d + l)) ((a + suc k) + d) (omega arith))
    (λ c l. negsuc_is (suc (k + l)) (a + c) ((a + suc k) + (c + suc l)) (omega arith)))

mul_diff : (a b c d : ℕ) → diff a b *ℤ diff c d ≡ diff (a * c + b * d) (a * d + b * c)
mul_diff = diff_view (λ a b z. (c d : ℕ) → z *ℤ diff c d ≡ diff (a * c + b * d) (a * d + b * c))
    (λ b k. diff_view (λ c d w. pos k *ℤ w ≡ diff ((b + k) * c + b * d) ((b + k) * d + b * c))
    (λ d l. pos_is (k * l) ((b + k) * (d + l) + b * d) ((b + k) * d + b * (d + l)) (omega arith))
    (λ c l. negpos_is (k * suc l) ((b + k) * c + b * (c + suc l)) ((b + k) * (c + suc l) + b * c) (omega arith)))
    (λ a k. diff_view (λ c d w. negsuc k *ℤ w ≡ diff (a * c + (a + suc k) * d) (a * d + (a + suc k) * c))
    (λ d l. negpos_is (suc k * l) (a * (d + l) + (a + suc k) * d) (a * d + (a + suc k) * (d + l)) (omega arith))
    (λ c l. pos_is (suc k * suc l) (a * c + (a + suc k) * (c + suc l)) (a * (c + suc l) + (a + suc k) * c) (omega arith)))

-- every integer is a difference
by_diff : (P : ℤ → Type 0) → ((a b : ℕ) → P (diff a b)) → (z : ℤ) → P z
by_diff P f (pos n) = subst P (sym (pos_is n n 0 (omega arith))) (f n 0)
by_diff P f (negsuc n) = subst P (sym (negsuc_is n 0 (suc n) (omega arith))) (f 0 (suc n))

by_diff₂ : (P : ℤ → ℤ → Type 0) → ((a b c d : ℕ) → P (diff a b) (diff c d)) → (x y : ℤ) → P x y
by_diff₂ P f x y = by_diff (λ x. P x y) (λ a b. by_diff (λ y. P (diff a b) y) (λ c d. f a b c d) y) x

by_diff₃ : (P : ℤ → ℤ → ℤ → Type 0) → ((a b c d e f : ℕ) → P (diff a b) (diff c d) (diff e f)) → (x y z : ℤ) → P x y z
by_diff₃ P f x y z = by_diff₂ (λ x y. P x y z) (λ a b c d. by_diff (λ z. P (diff a b) (diff c d) z) (λ e g. f a b c d e g) z) x y

pub *ℤ-assoc : (x y z : ℤ) → (x *ℤ y) *ℤ z ≡ x *ℤ (y *ℤ z)
*ℤ-assoc = by_diff₃ (λ x y z. (x *ℤ y) *ℤ z ≡ x *ℤ (y *ℤ z)) (λ a b c d e f. simp mul_diff (diff_eq _ _ _ _ (omega arith)))

pub *ℤ-+ℤ : (x y z : ℤ) → x *ℤ (y +ℤ z) ≡ x *ℤ y +ℤ x *ℤ z
*ℤ-+ℤ = by_diff₃ (λ x y z. x *ℤ (y +ℤ z) ≡ x *ℤ y +ℤ x *ℤ z) (λ a b c d e f. simp (mul_diff, add_diff) (diff_eq _ _ _ _ (omega arith)))

-- ---- laws of the order
≤-diff : (a b c d : ℕ) → a + d ≤ c + b → diff a b ≤ℤ diff c d
≤-diff = diff_view (λ a b z. (c d : ℕ) → a + d ≤ c + b → z ≤ℤ diff c d)
    (λ b k. diff_view (λ c d w. (b + k) + d ≤ c + b → pos k ≤ℤ w)
    (λ d l h. pos-≤ (omega arith))
    (λ c l h. absurd (omega arith)))
    (λ a k. diff_view (λ c d w. a + d ≤ c + (a + suc k) → negsuc k ≤ℤ w)
    (λ d l h. le_z_yes tt)
    (λ c l h. negsuc-≤ k l (omega arith)))

diff-≤ : (a b c d : ℕ) → diff a b ≤ℤ diff c d → a + d ≤ c + b
diff-≤ = diff_view (λ a b z. (c d : ℕ) → z ≤ℤ diff c d → a + d ≤ c + b)
    (λ b k. diff_view (λ c d w. pos k ≤ℤ w → (b + k) + d ≤ c + b)
    (λ d l h. omega (arith, ≤-pos h))
    (λ c l h. absurd h.le))
    (λ a k. diff_view (λ c d w. negsuc k ≤ℤ w → a + d ≤ c + (a + suc k))
    (λ d l h. omega arith)
    (λ c l h. omega (arith, ≤-negsuc k l h)))

pub ≤ℤ-trans : (x y z : ℤ) → x ≤ℤ y → y ≤ℤ z → x ≤ℤ z
≤ℤ-trans = by_diff₃ (λ x y z. x ≤ℤ y → y ≤ℤ z → x ≤ℤ z) (λ a b c d e f h k. ≤-diff a b e f (omega (arith, diff-≤ a b c d h, diff-≤ c d e f k)))

pub ≤ℤ-antisym : (x y : ℤ) → x ≤ℤ y → y ≤ℤ x → x ≡ y
≤ℤ-antisym = by_diff₂ (λ x y. x ≤ℤ y → y ≤ℤ x → x ≡ y) (λ a b c d h k. diff_eq a b c d (omega (arith, diff-≤ a b c d h, diff-≤ c d a b k)))

nn_diff : (a b : ℕ) → b ≤ a → pos 0 ≤ℤ diff a b
nn_diff = diff_view (λ a b z. b ≤ a → pos 0 ≤ℤ z) (λ b k h. pos-≤ (omega arith)) (λ a k h. absurd (omega arith))

diff_nn : (a b : ℕ) → pos 0 ≤ℤ diff a b → b ≤ a
diff_nn = diff_view (λ a b z. pos 0 ≤ℤ z → b ≤ a) (λ b k h. omega arith) (λ a k h. absurd h.le)

pub nn_sub : (x y : ℤ) → x ≤ℤ y → pos 0 ≤ℤ (y +ℤ neg_ℤ x)
nn_sub = by_diff₂ (λ x y. x ≤ℤ y → pos 0 ≤ℤ (y +ℤ neg_ℤ x)) (λ a b c d h. simp (neg_diff, add_diff) (nn_diff (c + b) (d + a) (omega (arith, diff-≤ a b c d h))))

pub sub_nn : (x y : ℤ) → pos 0 ≤ℤ (y +ℤ neg_ℤ x) → x ≤ℤ y
sub_nn = by_diff₂ (λ x y. pos 0 ≤ℤ (y +ℤ neg_ℤ x) → x ≤ℤ y) (λ a b c d h. ≤-diff a b c d (omega (arith, diff_nn (c + b) (d + a) (simp (neg_diff, add_diff) at h))))

pub nn_add : (x y : ℤ) → pos 0 ≤ℤ x → pos 0 ≤ℤ y → pos 0 ≤ℤ (x +ℤ y)
nn_add (pos a) (pos b) h k = pos-≤ (omega arith)
nn_add (pos a) (negsuc b) h k = absurd k.le
nn_add (negsuc a) (pos b) h k = absurd h.le
nn_add (negsuc a) (negsuc b) h k = absurd h.le

pub nn_mul : (x y : ℤ) → pos 0 ≤ℤ x → pos 0 ≤ℤ y → pos 0 ≤ℤ (x *ℤ y)
nn_mul (pos a) (pos b) h k = pos-≤ (omega arith)
nn_mul (pos a) (negsuc b) h k = absurd k.le
nn_mul (negsuc a) (pos b) h k = absurd h.le
nn_mul (negsuc a) (negsuc b) h k = absurd h.le

below_zero_lem : (m : ℕ) → 0 < m → pos 0 ≤ℤ neg_ℤ (pos m) → ⊥
below_zero_lem zero h k = omega arith
below_zero_lem (suc m) h k = k.le

pub nn_div : (k : ℕ) (x : ℤ) → 0 < k → pos 0 ≤ℤ (pos k *ℤ x) → pos 0 ≤ℤ x
nn_div k (pos n) p h = pos-≤ (omega arith)
nn_div k (negsuc n) p h = absurd (below_zero_lem (k * suc n) (mul-pos p (zero-lt-suc n)) h)

mul_pos_diff : (a b d : ℕ) → diff a b *ℤ pos d ≡ diff (a * d) (b * d)
mul_pos_diff a b d = ap (λ z. diff a b *ℤ z) (pos_is d d 0 (omega arith)) ∙ mul_diff a b d 0 ∙ diff_eq _ _ _ _ (omega arith)

-- a positive factor cancels
pub ≤ℤ-cancel : (d : ℕ) → 0 < d → (x y : ℤ) → (x *ℤ pos d) ≤ℤ (y *ℤ pos d) → x ≤ℤ y
≤ℤ-cancel d p = by_diff₂ (λ x y. (x *ℤ pos d) ≤ℤ (y *ℤ pos d) → x ≤ℤ y) (λ a b c e h.
    let u : a * d + e * d ≤ c * d + b * d = diff-≤ (a * d) (b * d) (c * d) (e * d) (simp mul_pos_diff at h) in
    let v : (a + e) * d ≤ (c + b) * d = omega arith in
    ≤-diff a b c e (le_of_mul-le-mul_right v p))
