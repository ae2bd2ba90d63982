use Rattle.ir_facts.proofs.rounds.+rounds_in_place.Given as goal

abbrev pub decreases-rounds_in_place : goal.decreases-rounds_in_place
decreases-rounds_in_place l = l.left
