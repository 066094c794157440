-- Fractions: a whole number of either sign over one above 0, compared by cross products. One type for every exact number of the stepper:
-- the value of a float, the exact diffusion scheme, error bounds.
--
-- DEFINED (Fraction)
--   Fraction           top, bottom, above : 0 < bottom
--   whole z, nat n, pow2 k, frac z d tt       z, n, 2 ^ k, z/d for a d that is written out
--   + - * / neg inv    `◌+F◌ _-F_ ◌*F◌ ◌/F◌ neg_f inv`; the inverse of 0 is 0
--   ≤ < =              `◌≤F◌ ◌<F◌ ◌≈F◌`, records of one field `cross`
--   ∣x∣ and ∣x∣ ≤ b    `∣ x ∣`, `x within b`; ∣x − q∣ ≤ e is `x -F q within e`; low ≤ x ≤ high is `x from low to high`
--   min_f max_f clamp_f   clamp_f low high x: what is below low becomes low, then what is above high becomes high
--
-- PROVED, in proofs/
--   Field              commutative ring, total order; a number at least 0 by its top; the strict order is "not the other way round"
--   Order              ≤ and < under sums and products, natural numbers, powers of 2; closed fractions by computing: lit≤F tt, lit<F tt,
--                      lit≈F refl, under an `unfolding` line that names the operations used
--   Within             triangle inequality, products, distances, the error of a product, ∣x∣ ≤ b by either form
--   Inverse            x · 1/x = 1 above 0, its sign, order and products; cancelling; the error of a quotient
--   Clamp              keeps the order, never widens a distance, stays from low to high, and its three cases
--   Mean               x + w·(y − x) and x + v·(y − x) + w·(z − x) with weights at least 0 keep bounds, order and distances
--   Size               2 ^ -e ≤ x ≤ 2 ^ f, carried through products and inverses
--   Examples           the lines below, closed numbers, and instances that meet the laws' premises
--
-- USED (Certificate): each identity or inequality is one line. It lists the terms that count as variables (at most 16; any terms, such as
-- `inv y` or `nat n`), and `search quote depth 24` reads the rest back as polynomials in them. Numbers that are written out need no listing,
-- and `nat (a + b)`, `nat (a * b)` are taken apart.
--   an identity; here (x + y)·(x² − x·y + y²) = x³ + y³ (`cubes` of Examples)
--     ring (x ∷ y ∷ []) (search quote depth 24) tt
--   x ≤F y: a certificate, a term shown to be at least 0 that equals (k + 1)·(y − x); here 3·x ≤ y + 2·z of x ≤ y ≤ z, k = 0 (`between`)
--     le-by (x ∷ y ∷ z ∷ []) 0 (num 3 ⊠ up h ⊞ num 2 ⊠ up k) (search quote depth 24) tt
--   x within b: two certificates, of b − x and of x + b; here ∣−x∣ ≤ b of ∣x∣ ≤ b (`within_neg` of Within; `square_error` has k = 1)
--     within-by (x ∷ b ∷ []) 0 (lo h) (hi h) (search quote depth 24) tt tt
--   x ≈F y from equations: y − x is a sum of e·(b − a), one for each h : a ≈F b; here x / y · y = x (`quotient`)
--     eq-by (x ∷ y ∷ inv y ∷ []) (x · mul-inv p) (search quote depth 24) tt
-- What a certificate is made of:
--   up h     y − x        h : x ≤F y              num n       a natural number
--   hi h     b − x        h : x within b          sq e        e · e
--   lo h     x + b        h : x within b          eqn (e · h & f · k)    multiples of equations
--   h        x            h : nat 0 ≤F x          c ⊞ d, c ⊠ d           sums and products
-- tools/cert.py finds certificates: cert.py 'x y z' 'h: le x y' 'k: le y z' 'goal le 3*x y+2*z'
-- Where a line does not fit, the refusal's last line shows a monomial that is left, `term c (p ∷ q ∷ ..)`: c times the first variable to the p,
-- the second to the q, and so on. Where `search` finds nothing, a term is missing from the list.
-- A strict x <F y is shown by `lt_from h (λ l. ..)` (Field): were y ≤F x, a known h : z <F w would be undone.
pub mod Integer
pub mod Ring
pub mod Quote
pub mod IntegerRing
pub mod Fraction
