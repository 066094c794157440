-- A line of at most 4,096 bytes stays one, whatever is put behind them: so does each line that begins with `Line::new`. Assumes nothing.
use Rattle.std.specs.Prelude.{ℕ, ◌<◌, ◌≤◌, ◌≡◌, Bool, true, false, List, [], ◌∷◌, ltb, replicate}
use Rattle.std.proofs.Common.{refl, arith}
use Rattle.std.proofs.lemmas.Bool.{ltb-true}
use Rattle.decimal_spelling.specs.Spelling.{Written, written, put_byte, put_all}

abbrev pub Fits : Written → Type 0
Fits w = w.used ≤ 4096

pub new_fits : Fits (written (replicate 4096 0) 0)
new_fits = omega arith

-- a byte, and a text
pub put_fits : (w : Written) → Fits w → ((b : ℕ) → Fits (put_byte w b)) × ((s : List ℕ) → Fits (put_all w s))
unfolding put_all
put_fits w h = (λ b. byte w b h (ltb w.used 4096) refl, λ s. text w s h)
  where
    byte : (w : Written) (b : ℕ) → Fits w → (t : Bool) → ltb w.used 4096 ≡ t → Fits (put_byte w b)
    byte w b h true e = let l : w.used < 4096 = ltb-true _ _ e in rw e (omega arith)
    byte w b h false e = rw e (omega arith)

    text : (w : Written) (s : List ℕ) → Fits w → Fits (put_all w s)
    text w [] h = h
    text w (b ∷ s) h = text (put_byte w b) s (byte w b h (ltb w.used 4096) refl)
