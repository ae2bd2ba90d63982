-- The reader of groups of numbered brackets reads them.
use Rattle.std.proofs.Common.{◌≡◌, ℕ, nat_eq, Bool, true, false, cond, Some, None, List, refl, ap, arith}
use Rattle.ir_parse_parts.specs.Alphabet.{is_number}
use Rattle.ir_parse_parts.specs.Balanced as balanced
use Rattle.ir_parse_parts.specs.Balanced.{Closing, closing_at, HaveClosers, moved, none_open}
use Rattle.ir_parse_parts.specs.Groups.{Mark, opens, closes, plain, marks, move_of, numbered}
use Rattle.ir_parse_parts.specs.Lawful.{Lawful}
use Rattle.ir_parse_parts.proofs.Closings.{closing_lawful}

closes_it : (b : ℕ) (bs : List ℕ) → moved numbered (balanced.closes b) b bs ≡ Some bs
closes_it b bs = ap (λ (t : Bool). cond t (Some bs) None) (same b)
  where
    same : (b : ℕ) → nat_eq b b ≡ true
    same b = grind arith

number_stays : (t : Mark) → is_number marks t ≡ true → move_of t ≡ balanced.stays
number_stays (opens n) h = absurd cc
number_stays (closes n) h = absurd cc
number_stays plain h = refl

have_closers : HaveClosers numbered marks
have_closers = record { closer = λ b. closes b; closes_it = closes_it; real = λ b. tt; number_stays = number_stays }

pub lawful : (open_ones : List ℕ) → Lawful marks (Closing numbered open_ones) (Closing numbered open_ones) (closing_at numbered open_ones) (λ _. true) (λ _. false) (none_open open_ones)
lawful open_ones = closing_lawful marks numbered have_closers open_ones
