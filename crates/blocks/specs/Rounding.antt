-- The rounding of raw words by extra bits.
--
--   down x d        x / d, rounded down
--   RoundsDown      it is: x is d times that quotient, and a rest below d
--   rounded e w     (w + 2^(e−1)) / 2^e, rounded down; with no extra bits it is w
--   bits_answer     e extra bits, or the refusal of more than 8
use Rattle.std.specs.Prelude.{◌≡◌, ℕ, zero, suc, ◌/◌, ◌^◌, ◌<◌, if◌then◌else◌, ℤ, pos, negsuc, ◌+ℤ◌, ◌*ℤ◌, Ok, Err, Result, nat_le}
use Rattle.faults.specs.declared.load.LoadFault.{LoadFault}
use Rattle.faults.specs.declared.load.LoadFault.TheVariants as fault

abbrev pub down : ℤ → ℕ → ℤ
down (pos n) d = pos (n / d)
down (negsuc n) d = negsuc (n / d)

abbrev pub RoundsDown : Type 0
RoundsDown = (x : ℤ) (d : ℕ) → 0 < d → (rest : ℕ) × (rest < d) × (x ≡ pos d *ℤ down x d +ℤ pos rest)

abbrev pub rounded : ℕ → ℤ → ℤ
rounded zero w = w
rounded (suc k) w = down (w +ℤ pos (2 ^ k)) (2 ^ suc k)

abbrev pub bits_answer : ℕ → Result ℕ LoadFault
bits_answer e = if nat_le e 8 then Ok e else Err fault.ExtraBits
