-- What a read of a digit gives, and the bytes of a part of a text. Assumes nothing.
use Rattle.std.proofs.Common.{ℕ, ◌+◌, ◌-◌, ◌<◌, ◌≤◌, ◌≡◌, refl, ◌∙◌, arith, Bool, true, false, cond, ◌||◌, List, length, get_or, take, drop, Some, None}
use Rattle.std.specs.Prelude.{is_some, unwrap_or}
use Rattle.std.proofs.lemmas.List.{get_or-take, get_or-drop}
use Rattle.std.proofs.lemmas.Grind.{common_steps}
use Rattle.replay_run.specs.Lines.{is_decimal, is_letter, is_digit, digit_of}
use Rattle.replay_run.specs.Reads.{digit_read}

pub read_digit : (b : ℕ) → is_some (digit_read b) ≡ is_digit b
unfolding digit_read
read_digit b = go (is_digit b)
  where
    go : (p : Bool) → is_some (cond p (Some (digit_of b)) None) ≡ p
    go true = refl
    go false = refl

pub read_value : (b : ℕ) → unwrap_or (digit_read b) 0 ≡ digit_of b
unfolding digit_read digit_of
read_value b = go (is_decimal b) (is_letter b)
  where
    go : (p q : Bool) → unwrap_or (cond (p || q) (Some (cond p (b - 48) (cond q (b - 55) 0))) None) 0 ≡ cond p (b - 48) (cond q (b - 55) 0)
    go true q = refl
    go false true = refl
    go false false = refl

-- the sixteen bytes from place a on
pub part_length : (s : List ℕ) (a : ℕ) → a + 16 ≤ length s → length (take (a + 16 - a) (drop a s)) ≡ 16
part_length s a h = grind (arith, common_steps)

pub part_byte : (s : List ℕ) (a i : ℕ) → i < 16 → get_or (take (a + 16 - a) (drop a s)) i 0 ≡ get_or s (a + i) 0
part_byte s a i h = get_or-take (a + 16 - a) (drop a s) i 0 (omega arith) ∙ get_or-drop a s i 0
