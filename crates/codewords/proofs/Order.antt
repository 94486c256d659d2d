-- Codeword order is strict, so there is one nearest codeword.
use Rattle.std.proofs.Common.{◌≡◌, ℕ, ◌<◌, ◌⊎◌, List, [], ◌∷◌, length, sym, ap, ◌∙◌, inl, inr, ⊎_elim, arith}
use Rattle.std.proofs.lemmas.Bool.{cases_eq}
use Rattle.codewords.specs.Codewords.{Earlier}
use Rattle.codewords.specs.Distances.{distance_of}
use Rattle.codewords.specs.Nearest.{Settled}
use Rattle.codewords.specs.Numbers.{numbered}
use Rattle.codewords.proofs.Numbering.{number_of, numbered_number}

-- of two words one at most comes before the other
one_way : (v w : List ℕ) → Earlier v w → Earlier w v → ⊥
one_way [] w e f = e
one_way (i ∷ v) [] e f = e
one_way (i ∷ v) (j ∷ w) (inl e) (inl f) = one_way v w e f
one_way (i ∷ v) (j ∷ w) (inl e) (inr q) = let twice : Earlier v v = rw q.0 at e in one_way v v twice twice
one_way (i ∷ v) (j ∷ w) (inr p) (inl f) = let twice : Earlier v v = rw (← p.0) at f in one_way v v twice twice
one_way (i ∷ v) (j ∷ w) (inr p) (inr q) = let h = p.1 in let k = q.1 in omega arith

pub settled : Settled
settled b pts n v w c d p q =
    let m = length pts in
    let far : v ≡ w → (v ≡ w) × (c ≡ d) = λ e. (e, p.reached.value ∙ ap (distance_of b pts) e ∙ sym q.reached.value) in
    ⊎_elim
    (λ e. far (sym (numbered_number m n v p.reached.codeword) ∙ ap (numbered m n) e ∙ numbered_number m n w q.reached.codeword))
    (λ other. absurd (clash (p.ahead w q.reached.codeword (λ e. other (ap (number_of m) (sym e)))) (q.ahead v p.reached.codeword (λ e. other (ap (number_of m) e)))))
    (cases_eq (number_of m v) (number_of m w))
  where
    clash : (c < distance_of b pts w) ⊎ ((c ≡ distance_of b pts w) × Earlier v w) → (d < distance_of b pts v) ⊎ ((d ≡ distance_of b pts v) × Earlier w v) → ⊥
    clash (inl h) (inl k) = omega (arith, p.reached.value, q.reached.value)
    clash (inl h) (inr k) = omega (arith, p.reached.value, q.reached.value, k.0)
    clash (inr h) (inl k) = omega (arith, p.reached.value, q.reached.value, h.0)
    clash (inr h) (inr k) = one_way v w h.1 k.1
