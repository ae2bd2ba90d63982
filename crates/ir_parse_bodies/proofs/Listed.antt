-- Instructions that are put where they are read.
use Rattle.std.proofs.Common.{◌≡◌, List, Some, Result, Ok, Err, refl}
use Rattle.ir_lex.specs.Tok.{Tok}
use Rattle.ir_parse_parts.specs.declared.fault.Fault.{Fault}
use Rattle.ir_parse_parts.specs.Readers.{Reader, done, follow, ◌>>=◌}
use Rattle.ir_parse_parts.specs.declared.raw.Instr.{Instr}
use Rattle.ir_parse_parts.specs.declared.raw.WrittenLine.{WrittenLine}
use Rattle.ir_parse_parts.specs.MetadataAt.{attachments_at}
use Rattle.ir_parse_operands.specs.declared.listing.Listing.{Listing}
use Rattle.ir_parse_operands.specs.Listing.{put, put_at}
use Rattle.ir_parse_bodies.specs.Blocks.{keep}
use Rattle.ir_parse_bodies.specs.LinesAt.{attended_at, some_at}
use Rattle.ir_parse_bodies.specs.Lines.{lined}
use Rattle.ir_parse_bodies.specs.Listed.{listed_at}

-- an instruction that is never dropped
pub some_listed : (l : Listing) (f : Reader Tok Instr) (ts : List Tok) → listed_at l (some_at f) ts ≡ put_at l f ts
unfolding some_at
some_listed l f ts = by_read (f ts)
  where
    by_read : (r : Result (Instr × List Tok) Fault)
        → follow (follow (follow r (λ i. done (Some i))) (λ i. done (lined l.name l.line i))) (λ x. done (keep l.lines.items x)) ≡ follow r (λ i. done (put l i))
    by_read (Ok x) = refl
    by_read (Err e) = refl

-- an instruction that its attachments follow
pub attended_listed : (l : Listing) (f : Reader Tok Instr) (ts : List Tok) → listed_at l (attended_at f) ts ≡ follow (put_at l f ts) (λ lines. attachments_at >>= λ _. done lines)
unfolding attended_at
attended_listed l f ts = by_read (f ts)
  where
    by_attached : (i : Instr) (r : Result (Unit {0} × List Tok) Fault)
        → follow (follow (follow r (λ _. done (Some i))) (λ i. done (lined l.name l.line i))) (λ x. done (keep l.lines.items x)) ≡ follow r (λ _. done (put l i))
    by_attached i (Ok x) = refl
    by_attached i (Err e) = refl

    by_read : (r : Result (Instr × List Tok) Fault)
        → follow (follow (follow r (λ i. attachments_at >>= λ _. done (Some i))) (λ i. done (lined l.name l.line i))) (λ x. done (keep l.lines.items x)) ≡ follow {B = List WrittenLine} (follow r (λ i. done (put l i))) (λ lines. attachments_at >>= λ _. done lines)
    by_read (Ok x) = by_attached x.0 (attachments_at x.1)
    by_read (Err e) = refl
