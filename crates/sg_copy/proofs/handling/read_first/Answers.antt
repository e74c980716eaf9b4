use Rattle.std.proofs.Common.{ℕ, ◌<◌, ◌≤◌, ◌^◌, sym, arith}
use Rattle.sg_words.specs.Address.{IsAddress, byte_at}
use Rattle.sg_copy.proofs.handling.read_first.Goals as goal

is_address : (t : ℕ) → 512 ≤ t → t < 2 ^ 37 → IsAddress (byte_at t)
is_address t a b = (omega arith, omega arith, omega arith)

pub returns-in-None : goal.returns-in-None
returns-in-None c = (λ class l e. c.in_default.ensures class l (sym e), λ t a b e. c.in-None.ensures (byte_at t) (is_address t a b) (sym e))
