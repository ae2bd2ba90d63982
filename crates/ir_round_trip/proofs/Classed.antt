-- The tokens of printed text are each of the class that their text has alone, and so are tokens that a reading keeps.
use Rattle.std.proofs.Common.{◌≡◌, ℕ, Bool, true, false, cond, Option, None, Some, Ok, Err, List, [], ◌∷◌, ◌++◌, refl, sym, ap, subst}
use Rattle.std.specs.List.{AllByRecursion as Each}
use Rattle.ir_lex.specs.Blanks.{line_behind}
use Rattle.ir_lex.specs.TokenKinds.{number, kind_of}
use Rattle.ir_lex.specs.Pieces.{Piece}
use Rattle.ir_lex.specs.Tok.{Tok}
use Rattle.ir_parse_parts.proofs.OperandRules.{global_is}
use Rattle.ir_parse_parts.specs.Classes.{tokens}
use Rattle.ir_parse_heads.specs.FunctionHeads.{head, name_refusal, names_of}
use Rattle.ir_parse_parts.specs.Operands.{global_named}
use Rattle.ir_parse_heads.specs.declared.function_heads.Role.{Role}
use Rattle.ir_parse_parts.specs.declared.raw.FunctionHeader.{FunctionHeader}
use Rattle.ir_parse_parts.specs.Alphabet.{contains}
use Rattle.ir_parse_parts.specs.declared.fault.TokenFault.{TokenFault}
use Rattle.ir_parse_parts.specs.Forms as form
use Rattle.ir_parse_parts.specs.Forms.{Form, token}
use Rattle.ir_parse_parts.specs.Rules.{in_range, is_valued}
use Rattle.ir_round_trip.specs.Texts.{tokens_before}
use Rattle.ir_round_trip.specs.Reads.{Parses}

abbrev pub IsClassed : Tok → Type 0
IsClassed t = t.kind ≡ kind_of t.form t.text []

all_classed : (behind : List Piece) (line : ℕ) (ps : List Piece) → Each IsClassed (tokens_before behind line ps)
all_classed behind line [] = tt
all_classed behind line (p ∷ ps) = (refl, all_classed behind (line_behind (line_behind line p.blank) (p.first ∷ p.others)) ps)

-- what is known of the tokens is known of the value
pub of_tokens : {A : Type 0} {g : Form Tok A} {P : A → Type 0} {ps : List Piece} (Q : A → Type 0) → ((ts : List Tok) (a : A) → Each IsClassed ts → g ts a → Q a) → Parses g P ps → Parses g (λ a. P a × Q a) ps
of_tokens {ps = ps} Q f r = record { value = λ behind line. let a = r.value behind line in (a.0, a.1, (a.2, f (tokens_before behind line ps) a.0 (all_classed behind line ps) a.1)) }

behind_others : (xs ys : List Tok) → Each IsClassed (xs ++ ys) → Each IsClassed ys
behind_others [] ys h = h
behind_others (x ∷ xs) ys h = behind_others xs ys h.1

before_others : (xs ys : List Tok) → Each IsClassed (xs ++ ys) → Each IsClassed xs
before_others [] ys h = tt
before_others (x ∷ xs) ys h = (h.0, before_others xs ys h.1)

-- a token that is kept as it stands
module _ (refuse : ℕ → TokenFault) (classes : List ℕ) where
  same_token : (t a : Tok) → is_valued tokens refuse classes global_named t ≡ Ok a → t ≡ a
  unfolding is_valued
  same_token t a e = by_test (contains classes (number t.kind)) e
    where
      in_reach : (o : Option Tok) → in_range o ≡ Ok a → o ≡ Some a
      in_reach None q = absurd cc
      in_reach (Some u) q = let same : u ≡ a = cc in ap (λ (x : Tok). Some x) same

      by_test : (b : Bool) → cond b (in_range (global_named t)) (Err (refuse (number t.kind))) ≡ Ok a → t ≡ a
      by_test true q = global_is t.kind t a (in_reach (global_named t) q)
      by_test false q = absurd cc

  kept_classed : (ts : List Tok) (a : Tok) → Each IsClassed ts → token (is_valued tokens refuse classes global_named) ts a → IsClassed a
  kept_classed [] a h g = absurd g
  kept_classed (t ∷ []) a h g = subst IsClassed (same_token t a g) h.0
  kept_classed (t ∷ u ∷ ts) a h g = absurd g

-- the name of a function
pub name_classed : (role : Role) (room : ℕ) (ts : List Tok) (h : FunctionHeader) → Each IsClassed ts → head role room ts h → IsClassed h.name
unfolding head form.◌>>=◌
name_classed role room ts h c (prefix_ts, more, l, whole, p, (result_ts, more', r, whole', p', (name_ts, more'', name, whole'', p'', (params_ts, none, ps, last', p''', (empty, e))))) =
    let c1 : Each IsClassed more = behind_others prefix_ts more (subst (Each IsClassed) whole c) in
    let c2 : Each IsClassed more' = behind_others result_ts more' (subst (Each IsClassed) whole' c1) in
    let c3 : Each IsClassed name_ts = before_others name_ts more'' (subst (Each IsClassed) whole'' c2) in
    subst (λ (x : FunctionHeader). IsClassed x.name) (sym e) (kept_classed name_refusal (names_of role l) name_ts name c3 p'')
