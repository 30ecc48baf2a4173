-- Draws: numbers that follow one from another, from a seed on. What is drawn is told with the state
-- after it, at which the next draw begins.
use Rattle.std.specs.Prelude.{ℕ, zero, suc, ◌+◌, ◌*◌, ◌/◌, ◌%◌, ◌^◌, List, [], ◌∷◌, ◌++◌}

-- a number below a limit that is drawn at a state
abbrev pub draw : ℕ → ℕ → ℕ × ℕ
draw limit state =
    let next = (state * 6364136223846793005 + 1442695040888963407) % 2 ^ 64 in
    (next / 2 ^ 33 % limit, next)

-- so many things, one after the other from a state on, each by its place and those before it
abbrev pub drawn : {A : Type 0} → (ℕ → List A → ℕ → A × ℕ) → ℕ → ℕ → List A × ℕ
drawn next state zero = ([], state)
drawn next state (suc place) =
    let before = drawn next state place in
    let one = next place before.0 before.1 in
    (before.0 ++ one.0 ∷ [], one.1)
