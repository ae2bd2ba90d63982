-- The lines of refusals, part by part.
use Rattle.std.proofs.Common.{◌≡◌, ◌∙◌, ℕ, List, ◌++◌, refl, sym, ap, append_assoc, append-nil}
use Rattle.std.specs.Prelude.{codes, decimal}
use Rattle.ir_tree.specs.Names.{quoted}
use Rattle.ir_tree.specs.declared.fault_kind.FaultKind.TheVariants as fault
use Rattle.lto_fault.specs.Texts.{as_function, as_variable, at_instruction, cause_text, in_both, in_function, kind_text, place_text, refusal_text, rule_text, symbol_text, target_text}
use Rattle.ir_tree.specs.declared.cause.Cause.{Cause}
use Rattle.lto_fault.specs.declared.kind.RefusalKind.{RefusalKind}
use Rattle.lto_fault.specs.declared.kind.RefusalKind.TheVariants.{Unread, Unsound, BadLine}
use Rattle.lto_fault.specs.declared.refusal.Refusal.TheVariants.{BadArguments, DuplicateSymbol, KindClash, NameTaken, NoExport, Refused, TargetClash, Undefined, UndefinedSymbol, Uninit}
use Rattle.ir_tree.specs.declared.target_line.TargetLine.{TargetLine}
use Rattle.ir_tree.specs.declared.target_line.TargetLine.TheVariants.{Datalayout, Triple}
use Rattle.lto_fault.specs.Parts.{kind_word, kind_words}

-- ---- how parts group

four : (a b c d e : List ℕ) → (((a ++ b) ++ c) ++ d) ++ e ≡ a ++ (b ++ (c ++ (d ++ e)))
four a b c d e = append_assoc ((a ++ b) ++ c) d e ∙ append_assoc (a ++ b) c (d ++ e) ∙ append_assoc a b (c ++ (d ++ e))

five : (a b c d e f : List ℕ) → ((((a ++ b) ++ c) ++ d) ++ e) ++ f ≡ a ++ (b ++ (c ++ (d ++ (e ++ f))))
five a b c d e f = append_assoc (((a ++ b) ++ c) ++ d) e f ∙ four a b c d (e ++ f)

six : (a b c d e f g : List ℕ) → (((((a ++ b) ++ c) ++ d) ++ e) ++ f) ++ g ≡ a ++ (b ++ (c ++ (d ++ (e ++ (f ++ g)))))
six a b c d e f g = append_assoc ((((a ++ b) ++ c) ++ d) ++ e) f g ∙ five a b c d e (f ++ g)

-- ---- a file's line

kind_parts : (k : RefusalKind) → kind_text k ≡ kind_words k ++ kind_word k
kind_parts (Unread fault.Lex) = refl
kind_parts (Unread fault.Syntax) = refl
kind_parts (Unread (fault.Profile word)) = refl
kind_parts (Unread fault.Number) = refl
kind_parts (Unread fault.Limit) = refl
kind_parts (Unread fault.Twice) = refl
kind_parts (Unread fault.Unknown) = refl
kind_parts (Unread fault.Layout) = refl
kind_parts (Unread fault.Index) = refl
kind_parts (Unsound r) = sym (append-nil (rule_text r))
kind_parts BadLine = refl

pub refused_line : (file : List ℕ) (line : ℕ) (k : RefusalKind)
    → refusal_text (Refused file line k) ≡ codes "thinlto: " ++ (file ++ (codes ":" ++ (decimal line ++ (codes ": " ++ (kind_words k ++ (kind_word k ++ codes "\n"))))))
refused_line file line k =
    ap (λ (l : List ℕ). codes "thinlto: " ++ l)
    (five file (codes ":") (decimal line) (codes ": ") (kind_text k) (codes "\n")
    ∙ ap (λ (l : List ℕ). file ++ (codes ":" ++ (decimal line ++ (codes ": " ++ l)))) (ap (λ (l : List ℕ). l ++ codes "\n") (kind_parts k) ∙ append_assoc (kind_words k) (kind_word k) (codes "\n")))

-- ---- two files

both_line : (first second : List ℕ) → in_both first second ++ codes "\n" ≡ codes " in " ++ (first ++ (codes " and " ++ (second ++ codes "\n")))
unfolding in_both
both_line first second = four (codes " in ") first (codes " and ") second (codes "\n")

pub targets_line : (target : TargetLine) (first second : List ℕ)
    → refusal_text (TargetClash target first second) ≡ codes "thinlto: target " ++ (target_text target ++ (codes " differs in " ++ (first ++ (codes " and " ++ (second ++ codes "\n")))))
targets_line Datalayout first second = ap (λ (l : List ℕ). codes "thinlto: target datalayout differs" ++ l) (both_line first second)
targets_line Triple first second = ap (λ (l : List ℕ). codes "thinlto: target triple differs" ++ l) (both_line first second)

pub duplicate_line : (name first second : List ℕ)
    → refusal_text (DuplicateSymbol name first second) ≡ codes "thinlto: duplicate symbol @" ++ (quoted name ++ (codes " in " ++ (first ++ (codes " and " ++ (second ++ codes "\n")))))
unfolding symbol_text
duplicate_line name first second =
    ap (λ (l : List ℕ). codes "thinlto: duplicate symbol @" ++ l) (append_assoc (quoted name) (in_both first second) (codes "\n") ∙ ap (λ (l : List ℕ). quoted name ++ l) (both_line first second))

pub kinds_line : (name function variable : List ℕ)
    → refusal_text (KindClash name function variable) ≡ codes "thinlto: @" ++ (quoted name ++ (codes " is a function in " ++ (function ++ (codes " and a variable in " ++ (variable ++ codes "\n")))))
unfolding symbol_text as_function as_variable
kinds_line name function variable =
    ap (λ (l : List ℕ). codes "thinlto: @" ++ l)
    (append_assoc (quoted name ++ as_function function) (as_variable variable) (codes "\n") ∙ append_assoc (quoted name) (as_function function) (as_variable variable ++ codes "\n"))

-- ---- a symbol

pub undefined_symbol_line : (name file : List ℕ) → refusal_text (UndefinedSymbol name file) ≡ codes "thinlto: undefined symbol @" ++ (quoted name ++ (codes " in " ++ (file ++ codes "\n")))
unfolding symbol_text
undefined_symbol_line name file =
    ap (λ (l : List ℕ). codes "thinlto: undefined symbol @" ++ l) (append_assoc (quoted name ++ codes " in ") file (codes "\n") ∙ append_assoc (quoted name) (codes " in ") (file ++ codes "\n"))

pub no_export_line : (name : List ℕ) → refusal_text (NoExport name) ≡ codes "thinlto: no definition of exported @" ++ (quoted name ++ codes "\n")
unfolding symbol_text
no_export_line name = refl

pub name_taken_line : (name : List ℕ) → refusal_text (NameTaken name) ≡ codes "thinlto: name taken: @" ++ (quoted name ++ codes "\n")
unfolding symbol_text
name_taken_line name = refl

pub bad_arguments_line : (name : List ℕ) → refusal_text (BadArguments name) ≡ codes "thinlto: wrong arguments for @" ++ (quoted name ++ codes "\n")
unfolding symbol_text
bad_arguments_line name = refl

-- ---- a place in a run

pub undefined_line : (function file : List ℕ) (instruction : ℕ) (cause : Cause)
    → refusal_text (Undefined function file instruction cause)
    ≡ codes "thinlto: undefined behaviour in @" ++ (quoted function ++ (codes " of " ++ (file ++ (codes " at instruction " ++ (decimal instruction ++ (codes ": " ++ (cause_text cause ++ codes "\n")))))))
unfolding symbol_text in_function at_instruction place_text
undefined_line function file instruction cause =
    ap (λ (l : List ℕ). codes "thinlto: undefined behaviour in @" ++ l) (six (quoted function) (codes " of ") file (at_instruction instruction) (codes ": ") (cause_text cause) (codes "\n"))

pub uninit_line : (function file : List ℕ) (instruction : ℕ)
    → refusal_text (Uninit function file instruction)
    ≡ codes "thinlto: uninitialised byte read in @" ++ (quoted function ++ (codes " of " ++ (file ++ (codes " at instruction " ++ (decimal instruction ++ codes "\n")))))
unfolding symbol_text in_function at_instruction place_text
uninit_line function file instruction =
    ap (λ (l : List ℕ). codes "thinlto: uninitialised byte read in @" ++ l) (four (quoted function) (codes " of ") file (at_instruction instruction) (codes "\n"))
