-- What stands after k turns of a loop, by recursion on k: a list given place by place, a test of every place, a step made k times.
-- A loop's invariant is then `out ≡ first_by i f l`, `ok ≡ all_below i f` or `x ≡ times i f x₀`, and each turn is one line of the definition.
pub mod Iterate
