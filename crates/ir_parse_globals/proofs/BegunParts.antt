-- A part that begins inside aggregates, by its shape and its beginning.
use Rattle.std.proofs.Common.{◌≡◌, Bool, Option, List, Ok, Err, refl, subst}
use Rattle.ir_lex.specs.Tok.{Tok}
use Rattle.ir_tree.specs.declared.operand.Reg.{Reg}
use Rattle.ir_tree.specs.declared.failure.Failure.{Failure}
use Rattle.ir_parse_parts.specs.declared.fault.Fault.{Fault}
use Rattle.ir_tree.specs.declared.failure.Failure.TheVariants as errors
use Rattle.ir_parse_parts.specs.Readers.{Fails}
use Rattle.ir_parse_parts.specs.declared.raw.InitHead.{InitHead}
use Rattle.ir_parse_parts.specs.declared.raw.InitPart.TheVariants as init_parts
use Rattle.ir_parse_parts.specs.declared.shape.Typed.{Typed}
use Rattle.ir_parse_globals.specs.declared.initialisers.Aggregate.{Aggregate}
use Rattle.ir_parse_globals.specs.Initialisers.{scalar_of, aggregate_of, entered}
use Rattle.ir_parse_globals.specs.InitialisersAt.{beginning_at, part_shape_at, part_at, begun_at}

pub begun_is : (first : Bool) (outer : List Aggregate) (ts us rest : List Tok) (typed : Typed) (head : InitHead) (scalar : Option Reg) → part_shape_at first ts ≡ Ok (typed, us) → scalar ≡ scalar_of typed.shape → beginning_at scalar us ≡ Ok (head, rest) → begun_at first outer ts ≡ Ok ((init_parts.Typed typed head, entered (aggregate_of head) outer), rest)
unfolding begun_at part_at
begun_is first outer ts us rest typed head scalar p s q = let r = subst (λ o. beginning_at o us ≡ Ok (head, rest)) s q in rw p (rw r refl)

pub shape_fails : (first : Bool) (outer : List Aggregate) (ts : List Tok) (e : Failure Fault) → Fails e (part_shape_at first ts) → Fails e (begun_at first outer ts)
unfolding begun_at part_at
shape_fails first outer ts errors.NoMemory h = tt
shape_fails first outer ts (errors.Fault f) h = rw h refl

pub beginning_fails : (first : Bool) (outer : List Aggregate) (ts us : List Tok) (typed : Typed) (scalar : Option Reg) (e : Failure Fault) → part_shape_at first ts ≡ Ok (typed, us) → scalar ≡ scalar_of typed.shape → Fails e (beginning_at scalar us) → Fails e (begun_at first outer ts)
unfolding begun_at part_at
beginning_fails first outer ts us typed scalar errors.NoMemory p s h = tt
beginning_fails first outer ts us typed scalar (errors.Fault f) p s h = let r = subst (λ o. beginning_at o us ≡ Err f) s h in rw p (rw r refl)
