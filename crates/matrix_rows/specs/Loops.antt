-- `for i in from..to { x = f(i, x) }` as a value, and the same for a turn that can refuse, with the laws that loops are proved by. Assumes nothing.
use Prim.Native.Nat.{ℕ, zero, suc, ◌+◌, ◌-◌, ◌≤◌, ◌<◌}
use Rattle.std.specs.Prelude.{◌≡◌, Bool, true, false, cond, eqb}
use Rattle.std.proofs.Common.{sym, ◌∙◌, ap}
use native.Mathlib.Omega.{arith}
use Rattle.std.proofs.Math.Nat.{sub_self, add-zero}
use borrow.Author.Tests.{ne_eqb}

-- what both arms of a choice have
pub either : {A : Type 0} (P : A → Type 0) (b : Bool) (x y : A) → P x → P y → P (cond b x y)
either P true x y p q = p
either P false x y p q = q

module _ {A : Type 0} where
  -- k turns, i being from, from + 1, ..
  unfoldable pub turns_from : ℕ → ℕ → (ℕ → A → A) → A → A
  turns_from from zero f x = x
  turns_from from (suc k) f x = f (from + k) (turns_from from k f x)

  -- none where `to` is not above `from`
  unfoldable pub for_range : ℕ → ℕ → (ℕ → A → A) → A → A
  for_range from to f x = turns_from from (to - from) f x

  pub range_none : (from : ℕ) (f : ℕ → A → A) (x : A) → for_range from from f x ≡ x
  unfolding for_range turns_from
  range_none from f x = rw (sub_self from)

  pub range_next : (from i : ℕ) (f : ℕ → A → A) (x : A) → from ≤ i → for_range from (i + 1) f x ≡ f i (for_range from i f x)
  unfolding for_range turns_from
  range_next from i f x h =
      let e : i + 1 - from ≡ suc (i - from) = omega arith in
      let g : from + (i - from) ≡ i = omega arith in
      rw (e, g)

  -- what every turn keeps
  module _ (P : A → Type 0) (from to : ℕ) (f : ℕ → A → A) (x : A) (keeps : (i : ℕ) (y : A) → from ≤ i → i < to → P y → P (f i y)) where
    turns_keep : (k : ℕ) → k ≤ to - from → P x → P (turns_from from k f x)
    unfolding turns_from
    turns_keep zero l p = p
    turns_keep (suc k) l p = keeps (from + k) _ (omega arith) (omega (arith, l)) (turns_keep k (omega (arith, l)) p)

    pub range_keeps : P x → P (for_range from to f x)
    unfolding for_range
    range_keeps p = turns_keep (to - from) (omega arith) p

-- a value with the number of a refusal, 0 for none
pub record Tried (A : Type 0) : Type 0 where
  pub refusal : ℕ
  pub value : A

module _ {A : Type 0} where
  abbrev pub outcome : ℕ → A → Tried A
  outcome r x = record { refusal = r; value = x }

  -- a turn of something that nothing has refused yet
  unfoldable pub unless_refused : (ℕ → A → Tried A) → ℕ → Tried A → Tried A
  unless_refused f i t = cond (eqb t.refusal 0) (f i t.value) t

  -- `for i in 0..n`, left by the first turn that refuses
  unfoldable pub try_range : ℕ → (ℕ → A → Tried A) → A → Tried A
  try_range n f x = for_range 0 n (unless_refused f) (outcome 0 x)

  module _ (f : ℕ → A → Tried A) (x : A) where
    pub try_none : try_range 0 f x ≡ outcome 0 x
    unfolding try_range
    try_none = range_none 0 (unless_refused f) (outcome 0 x)

    pub try_next : (k : ℕ) (y : A) → outcome 0 y ≡ try_range k f x → try_range (k + 1) f x ≡ f k y
    unfolding try_range unless_refused
    try_next k y e = rw (range_next 0 k (unless_refused f) (outcome 0 x) (omega arith), ← e)

    try_stays : (k d : ℕ) → ((try_range k f x).refusal ≡ 0 → ⊥) → try_range (k + d) f x ≡ try_range k f x
    unfolding try_range unless_refused
    try_stays k zero h = rw add-zero
    try_stays k (suc d) h =
        let e : k + suc d ≡ k + d + 1 = omega arith in
        rw (e, range_next 0 (k + d) (unless_refused f) (outcome 0 x) (omega arith), try_stays k d h, ne_eqb _ _ h)

    -- a turn that refuses is the last
    pub try_ends : (n k r : ℕ) (y : A) → k < n → (r ≡ 0 → ⊥) → outcome 0 y ≡ try_range k f x → f k y ≡ outcome r y → outcome r y ≡ try_range n f x
    try_ends n k r y l h e g =
        let q : try_range (k + 1) f x ≡ outcome r y = try_next k y e ∙ g in
        let w : k + 1 + (n - (k + 1)) ≡ n = omega arith in
        sym (rw w at (try_stays (k + 1) (n - (k + 1)) (λ z. h (sym (ap (λ (t : Tried A). t.refusal) q) ∙ z))) ∙ q)

  -- what every turn keeps
  module _ (P : A → Type 0) (n : ℕ) (f : ℕ → A → Tried A) (x : A) (keeps : (i : ℕ) (y : A) → i < n → P y → P (f i y).value) where
    pub try_keeps : P x → P (try_range n f x).value
    unfolding try_range unless_refused
    try_keeps =
        range_keeps (λ (t : Tried A). P t.value) 0 n _ (outcome 0 x)
        (λ i t _ l p. either (λ (u : Tried A). P u.value) (eqb t.refusal 0) (f i t.value) t (keeps i t.value l p) p)
