-- A function whose blocks are all reached stays.
use Rattle.std.proofs.Common.{◌≡◌, ℕ, Bool, true, List, [], ◌∷◌, map, refl, sym, ◌∙◌, ap, if◌then◌else◌}
use Rattle.std.proofs.lemmas.Bool.{and_parts}
use Rattle.ir_tree.specs.declared.block.Block.{Block}
use Rattle.ir_tree.specs.declared.function.Function.{Function}
use Rattle.ir_tree.specs.declared.instr.Incoming.{Incoming}
use Rattle.ir_tree.specs.declared.instr.Phi.{Phi}
use Rattle.block_trim.specs.Staying.{block_stays, blocks_stay, entries_stay, phis_stay}
use Rattle.block_trim.specs.Trimmed.{block_in, blocks_in, entries_in, phi_in, trimmed}

module _ (reached : ℕ → Bool) where
  entries_same : (es : List Incoming) → entries_stay reached es ≡ true → entries_in reached es ≡ es
  entries_same [] h = refl
  entries_same (e ∷ es) h = by (and_parts (reached e.from) (entries_stay reached es) h) (entries_same es)
    where
      by : (reached e.from ≡ true) × (entries_stay reached es ≡ true) → (entries_stay reached es ≡ true → entries_in reached es ≡ es) → entries_in reached (e ∷ es) ≡ e ∷ es
      by (stays, rest) more = ap (λ (b : Bool). if b then e ∷ entries_in reached es else entries_in reached es) stays ∙ ap (λ (l : List Incoming). e ∷ l) (more rest)

  phis_same : (ps : List Phi) → phis_stay reached ps ≡ true → map (phi_in reached) ps ≡ ps
  phis_same [] h = refl
  phis_same (p ∷ ps) h = by (and_parts (entries_stay reached p.incoming) (phis_stay reached ps) h) (phis_same ps)
    where
      by : (entries_stay reached p.incoming ≡ true) × (phis_stay reached ps ≡ true) → (phis_stay reached ps ≡ true → map (phi_in reached) ps ≡ ps) → map (phi_in reached) (p ∷ ps) ≡ p ∷ ps
      by (stay, rest) more = λ i. record p { incoming = entries_same p.incoming stay i } ∷ more rest i

  block_same : (b : Block) → phis_stay reached b.phis ≡ true → block_in reached b ≡ b
  block_same b h = ap (λ (ps : List Phi). record b { phis = ps }) (phis_same b.phis h)

  blocks_same : (bs : List Block) → blocks_stay reached bs ≡ true → blocks_in reached bs ≡ bs
  blocks_same [] h = refl
  blocks_same (b ∷ bs) h = by (and_parts (block_stays reached b) (blocks_stay reached bs) h) (blocks_same bs)
    where
      first : (reached b.number ≡ true) × (phis_stay reached b.phis ≡ true) → blocks_in reached (b ∷ bs) ≡ b ∷ blocks_in reached bs
      first (there, phis) =
          ap (λ (t : Bool). if t then block_in reached b ∷ blocks_in reached bs else blocks_in reached bs) there ∙ ap (λ (x : Block). x ∷ blocks_in reached bs) (block_same b phis)

      by : (block_stays reached b ≡ true) × (blocks_stay reached bs ≡ true) → (blocks_stay reached bs ≡ true → blocks_in reached bs ≡ bs) → blocks_in reached (b ∷ bs) ≡ b ∷ bs
      by (stays, rest) more = first (and_parts (reached b.number) (phis_stay reached b.phis) stays) ∙ ap (λ (l : List Block). b ∷ l) (more rest)

  pub all_reached : (f : Function) → blocks_stay reached f.blocks ≡ true → f ≡ trimmed reached f
  all_reached f h = sym (ap (λ (bs : List Block). record f { blocks = bs }) (blocks_same f.blocks h))
