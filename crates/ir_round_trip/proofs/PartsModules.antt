-- The text of a module is cut into the tokens of its entries.
use Rattle.std.proofs.Common.{◌≡◌, ℕ, suc, ◌≤◌, Bool, true, false, ◌||◌, cond, nat_eq, nat_lt, Option, Some, None, List, [], ◌∷◌, ◌++◌, codes, refl, sym, ap, subst, ◌∙◌, append_assoc, arith}
use Rattle.std.proofs.lemmas.List.Elements.{recursion_from_All}
use Rattle.std.specs.List.{AllByRecursion as Each}
use Rattle.ir_lex.specs.Blanks.{Place, place, skip, pass, is_empty, line_after as next_line_after, line_behind, ends_before}
use Rattle.ir_lex.specs.Bytes.{has}
use Rattle.ir_lex.specs.Lexing.{AreTokens, Lead}
use Rattle.ir_lex.specs.Pieces.{Piece, bytes_of, ends_at}
use Rattle.ir_lex.specs.Tok.{Tok}
use Rattle.ir_lex.proofs.Spelled.{skip_blank}
use Rattle.ir_tree.specs.declared.function.Function.{Function}
use Rattle.ir_tree.specs.declared.function.Variable.{Variable}
use Rattle.ir_tree.specs.declared.module.GlobalValue.{GlobalValue}
use Rattle.ir_tree.specs.declared.module.GlobalValue.TheVariants as globals
use Rattle.ir_tree.specs.declared.module.Module.{Module}
use Rattle.ir_print.specs.Functions.{function}
use Rattle.ir_print.specs.Modules.{target_line, target_lines, global_value, global_values, entries, text_of, module_text}
use Rattle.ir_print.specs.Tokens.{tight, space}
use Rattle.ir_print.specs.Variables.{variable}
use Rattle.ir_round_trip.specs.Printable.{IsPrintable, GlobalPrintable, FunctionPrintable, VariablePrintable}
use Rattle.ir_round_trip.specs.Texts.{line_after, tokens_before, tokens_in}
use Rattle.ir_round_trip.proofs.Apart.{IsApart, blank_apart}
use Rattle.ir_round_trip.proofs.PartsFunctions.{function_fits}
use Rattle.ir_round_trip.proofs.Joined.{AllRead, Fits, is_keyword, then, marked, spaced, keyword, string_fits}
use Rattle.ir_round_trip.proofs.Single.{equals_mark}
use Rattle.ir_round_trip.proofs.PartsVariables.{variable_fits}

-- ---- tokens that lead on

lead_append : (at mid after : Place) (ts us : List Tok) → Lead at ts mid → Lead mid us after → Lead at (ts ++ us) after
lead_append at mid after [] us l m = subst (λ (p : Place). Lead p us after) (sym l) m
lead_append at mid after (t ∷ ts) us l m = (l.0, l.1, lead_append l.0 mid after ts us l.2 m)

-- blanks never lead back
skip_line : (comment : Bool) (line : ℕ) (bs : List ℕ) → line ≤ (skip comment line bs).line
skip_line comment line [] = omega arith
skip_line comment line (b ∷ bs) = by_pass (pass comment b) (λ c. skip_line c (next_line_after line b) bs)
  where
    more : (t : Bool) → line ≤ cond t (suc line) line
    more true = omega arith
    more false = omega arith

    by_pass : (o : Option Bool) → ((c : Bool) → next_line_after line b ≤ (skip c (next_line_after line b) bs).line) → line ≤ (elim o as (λ o. Place) [ None ↦ place line (b ∷ bs) | Some c ↦ skip c (next_line_after line b) bs ]).line
    by_pass None h = omega arith
    by_pass (Some c) h = omega (arith, h c, more (nat_eq b 10))

-- the line of a token ends before a line feed
feed_ends : (line : ℕ) (bs : List ℕ) → ends_before line (skip false line (10 ∷ bs)) ≡ true
feed_ends line bs = rw (later line (skip false (suc line) bs).line (skip_line false (suc line) bs)) (or_true (is_empty (skip false (suc line) bs).bytes))
  where
    later : (a b : ℕ) → suc a ≤ b → nat_lt a b ≡ true
    later a b h = grind arith

    or_true : (b : Bool) → b || true ≡ true
    or_true true = refl
    or_true false = refl

-- ---- entries

regroup : (blank others bytes tail : List ℕ) (c : ℕ) → (blank ++ (c ∷ (others ++ bytes))) ++ tail ≡ blank ++ (c ∷ (others ++ (bytes ++ tail)))
regroup blank others bytes tail c = append_assoc blank (c ∷ (others ++ bytes)) tail ∙ ap (λ (x : List ℕ). blank ++ (c ∷ x)) (append_assoc others bytes tail)

-- tokens that lead from a place to one behind which the text is as behind a line
pub record LeadsTo (at : Place) (ts : List Tok) (line : ℕ) (tail : List ℕ) : Type 0 where
  pub after : Place
  pub lead : Lead at ts after
  pub rest : skip false after.line after.bytes ≡ skip false line tail

skip_piece : (line : ℕ) (p : Piece) (ps : List Piece) (tail : List ℕ) → AllRead tail (p ∷ ps) → skip false line (bytes_of (p ∷ ps) ++ tail) ≡ place (line_behind line p.blank) (p.first ∷ (p.others ++ (bytes_of ps ++ tail)))
skip_piece line p ps tail r = ap (skip false line) (regroup p.blank p.others (bytes_of ps) tail p.first) ∙ skip_blank line p.blank p.first (p.others ++ (bytes_of ps ++ tail)) r.0.blank r.0.starts

ends_here : (line : ℕ) (ps : List Piece) (bs : List ℕ) → AllRead (10 ∷ bs) ps → ends_before line (skip false line (bytes_of ps ++ (10 ∷ bs))) ≡ ends_at line (ps ++ [])
ends_here line [] bs r = feed_ends line bs
ends_here line (p ∷ ps) bs r = ap (ends_before line) (skip_piece line p ps (10 ∷ bs) r)

entry_leads : (at : Place) (line : ℕ) (ps : List Piece) (bs : List ℕ) → AllRead (10 ∷ bs) ps → skip false at.line at.bytes ≡ skip false line (bytes_of ps ++ (10 ∷ bs)) → LeadsTo at (tokens_before [] line ps) (line_after line ps) (10 ∷ bs)
entry_leads at line [] bs r e = record { after = at; lead = refl; rest = e }
entry_leads at line (p ∷ ps) bs r e =
    let here : ℕ = line_behind line p.blank in
    let end : ℕ = line_behind here (p.first ∷ p.others) in
    let mid : Place = place end (bytes_of ps ++ (10 ∷ bs)) in
    let more = entry_leads mid end ps bs r.1 refl in
    record {
      after = more.after;
      lead = (
        mid,
        record {
          starts = e ∙ skip_piece line p ps (10 ∷ bs) r;
          good = r.0.good;
          fits = r.0.fits;
          kind = sym (r.0.settled (bytes_of ps ++ (10 ∷ bs)));
          line = refl;
          ends = sym (ends_here end ps bs r.1);
        },
        more.lead,
      );
      rest = more.rest;
    }

feed_apart : (bs : List ℕ) → IsApart 10
feed_apart bs = blank_apart 10 refl

-- the line behind entries
abbrev pub last_line : ℕ → List (List Piece) → ℕ
last_line line [] = line
last_line line (e ∷ es) = last_line (suc (line_after line e)) es

entries_lead : (at : Place) (line : ℕ) (es : List (List Piece)) → Each (Fits false) es → skip false at.line at.bytes ≡ skip false line (text_of es) → LeadsTo at (tokens_in line es) (last_line line es) []
entries_lead at line [] h e = record { after = at; lead = refl; rest = e }
entries_lead at line (entry ∷ more) h e =
    let one = entry_leads at line entry (text_of more) (h.0.read (10 ∷ text_of more) (feed_apart [])) e in
    let others = entries_lead one.after (suc (line_after line entry)) more h.1 one.rest in
    record {
      after = others.after;
      lead = lead_append at one.after others.after (tokens_before [] line entry) (tokens_in (suc (line_after line entry)) more) one.lead others.lead;
      rest = others.rest;
    }

pub entries_cut : (es : List (List Piece)) → Each (Fits false) es → AreTokens (text_of es) (tokens_in 1 es)
entries_cut es h =
    let l = entries_lead (place 1 (text_of es)) 1 es h refl in
    (last_line 1 es, record { after = l.after; lead = l.lead; rest = l.rest })

-- ---- modules

target_fits : (name text : List ℕ) → is_keyword name ≡ true → Fits false (target_line name text)
unfolding has
target_fits name text h = then (keyword tight (codes "target") tt refl) (then (keyword space name spaced h) (then (marked space 61 spaced equals_mark) (string_fits space text spaced)))

targets_fit : (name text : List ℕ) → is_keyword name ≡ true → Each (Fits false) (target_lines name text)
targets_fit name [] h = tt
targets_fit name (b ∷ bs) h = (target_fits name (b ∷ bs) h, tt)

global_value_fits : (g : GlobalValue) → GlobalPrintable g → Fits false (global_value g)
global_value_fits (globals.Variable v) p = variable_fits v p
global_value_fits (globals.Function f) p = function_fits f p

global_values_fit : (gs : List GlobalValue) → Each GlobalPrintable gs → Each (Fits false) (global_values gs)
global_values_fit [] p = tt
global_values_fit (g ∷ gs) p = (global_value_fits g p.0, global_values_fit gs p.1)

each_append : {X : Type 0} (P : X → Type 0) (xs ys : List X) → Each P xs → Each P ys → Each P (xs ++ ys)
each_append P [] ys h i = i
each_append P (x ∷ xs) ys h i = (h.0, each_append P xs ys h.1 i)

entries_fit : (m : Module) → IsPrintable m → Each (Fits false) (entries m)
unfolding has
entries_fit m p =
    let layout = target_lines (codes "datalayout") m.datalayout in
    let triple = target_lines (codes "triple") m.triple in
    each_append (Fits false) layout (triple ++ global_values m.globals) (targets_fit (codes "datalayout") m.datalayout refl)
    (each_append (Fits false) triple (global_values m.globals) (targets_fit (codes "triple") m.triple refl) (global_values_fit m.globals (recursion_from_All GlobalPrintable m.globals p)))

pub module_cut : (m : Module) → IsPrintable m → AreTokens (module_text m) (tokens_in 1 (entries m))
module_cut m p = entries_cut (entries m) (entries_fit m p)

pub function_cut : (f : Function) → FunctionPrintable f → AreTokens (text_of (function f ∷ [])) (tokens_in 1 (function f ∷ []))
function_cut f p = entries_cut (function f ∷ []) (function_fits f p, tt)

pub variable_cut : (v : Variable) → VariablePrintable v → AreTokens (text_of (variable v ∷ [])) (tokens_in 1 (variable v ∷ []))
variable_cut v p = entries_cut (variable v ∷ []) (variable_fits v p, tt)
