-- Reading items as a loop does: each is put behind those before it, and where a piece fails, all of it does.
use Rattle.std.proofs.Common.{◌≡◌, ◌<◌, ℕ, suc, Bool, true, false, not, Option, List, [], ◌∷◌, length, Result, Ok, refl, sym, ap, ◌∙◌}
use Rattle.std.specs.List.{fold}
use Rattle.ir_lex.specs.Tok.{Tok}
use Rattle.ir_parse_parts.specs.Chained.{stops_here, chain_within, chain_at}
use Rattle.ir_parse_parts.specs.declared.fault.Fault.{Fault}
use Rattle.ir_tree.specs.declared.failure.Failure.{Failure}
use Rattle.ir_tree.specs.declared.failure.Failure.TheVariants as errors
use Rattle.ir_parse_parts.specs.Readers.{Reader, Fails, done, follow, ◌>>=◌, folded, next_is}
use Rattle.ir_parse_parts.specs.Alphabet.{among}
use Rattle.ir_parse_parts.proofs.ChainLoops.{chain_on}
use Rattle.ir_parse_parts.proofs.Stars.{takes, folded_is}
use Rattle.ir_parse_parts.specs.Classes.{tokens}
use Rattle.ir_parse_parts.specs.declared.places.Position.{Position}
use Rattle.ir_parse_parts.specs.declared.raw.Item.{Item}
use Rattle.ir_parse.specs.ItemForms.{anywhere, keep}
use Rattle.ir_parse.specs.ItemFormsAt.{beginnings, begins_there, there_at, first_place, items_at}
use Rattle.ir_parse.specs.Putting.{behind_at}
use Rattle.ir_parse.proofs.ItemRules.{there_rule}
use Rattle.ir_parse.proofs.Putting.{put_was_read, put_fails}

module _ {T S A B : Type 0} (final : S → Bool) (begins : S → T → Bool) (f : S → Reader T (A × S)) (step : B → A → B) where
  abbrev within : ℕ → S → Reader T (List A)
  within = chain_within final begins f

  abbrev stop : S → List T → Bool
  stop = stops_here final begins

  abbrev further : ℕ → A × S → Reader T (List A)
  further n x = within n x.1 >>= λ m. done (x.0 ∷ m)

  goes : (n : ℕ) (s : S) (ts : List T) → stop s ts ≡ false → within (suc n) s ts ≡ follow (f s ts) (further n)
  goes n s ts h = rw h refl

  chain_fails : (e : Failure Fault) (acc : B) (s : S) (ts : List T) (total : Result (B × List T) Fault) → stop s ts ≡ false → Fails e (f s ts) → folded step acc (chain_at final begins f s ts) ≡ total → Fails e total
  chain_fails errors.NoMemory acc s ts total h d so_far = tt
  chain_fails (errors.Fault e) acc s ts total h d so_far = sym so_far ∙ ap (folded step acc) (goes (length ts) s ts h ∙ ap (λ (r : Result ((A × S) × List T) Fault). follow r (further (length ts))) d)

pub shorter : (room : ℕ) (at : Position) (ts rest : List Tok) (x : Option Item × Position) → there_at room at ts ≡ Ok (x, rest) → length rest < length ts
shorter room at ts rest x e = takes tokens (among tokens (beginnings at.before)) (there_rule room at).law ts rest x e

pub items_shorter : (room : ℕ) (front new : List Item) (at next : Position) (ts rest : List Tok) → behind_at front (there_at room at) ts ≡ Ok ((new, next), rest) → length rest < length ts
items_shorter room front new at next ts rest h = let p = put_was_read front new (there_at room at) ts rest next h in shorter room at ts rest (p.0, next) p.1

pub items_on : (room names : ℕ) (front new : List Item) (at next : Position) (ts rest all : List Tok) → true ≡ next_is (begins_there at) ts → behind_at front (there_at room at) ts ≡ Ok ((new, next), rest)
    → folded keep front (chain_at anywhere begins_there (there_at room) at ts) ≡ folded keep [] (chain_at anywhere begins_there (there_at room) (first_place names) all) → folded keep new (chain_at anywhere begins_there (there_at room) next rest) ≡ folded keep [] (chain_at anywhere begins_there (there_at room) (first_place names) all)
items_on room names front new at next ts rest all n h so_far =
    let p = put_was_read front new (there_at room at) ts rest next h in
    ap (λ (x : List Item). folded keep x (chain_at anywhere begins_there (there_at room) next rest)) (sym p.2)
    ∙ chain_on anywhere begins_there (there_at room) (shorter room) keep front at ts (p.0, next) rest (folded keep [] (chain_at anywhere begins_there (there_at room) (first_place names) all)) (ap not (sym n)) p.1 so_far

pub items_fail : (room names : ℕ) (e : Failure Fault) (front : List Item) (at : Position) (ts all : List Tok) → true ≡ next_is (begins_there at) ts → Fails e (behind_at front (there_at room at) ts)
    → folded keep front (chain_at anywhere begins_there (there_at room) at ts) ≡ folded keep [] (chain_at anywhere begins_there (there_at room) (first_place names) all) → Fails e (items_at room names all)
unfolding items_at
items_fail room names e front at ts all n h so_far =
    chain_fails anywhere begins_there (there_at room) keep e front at ts (follow (chain_at anywhere begins_there (there_at room) (first_place names) all) (λ (found : List (Option Item)). done (fold keep [] found))) (ap not (sym n)) (put_fails front (there_at room at) ts e h)
    (so_far ∙ folded_is keep [] (chain_at anywhere begins_there (there_at room) (first_place names) all))
