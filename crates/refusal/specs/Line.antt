-- The line that a refusal prints.
use Rattle.std.specs.Prelude.{ℕ, List, ◌++◌, codes, decimal}
use Rattle.refusal.specs.declared.layer.Layer.{Layer}
use Rattle.refusal.specs.declared.layer.Layer.TheVariants.{Joining, Text, Plan, Plant, Run}
use Rattle.refusal.specs.declared.refusal.Refusal.{Refusal}

-- the word that names a layer
abbrev pub layer_word : Layer → List ℕ
layer_word Joining = codes "joining"
layer_word Text = codes "text"
layer_word Plan = codes "plan"
layer_word Plant = codes "plant"
layer_word Run = codes "run"

-- the line of a refusal, as `(refused joining 1 at 0)`
abbrev pub refusal_line : Refusal → List ℕ
refusal_line r =
    codes "(refused " ++ (layer_word r.layer ++ (codes " " ++ (decimal r.number ++ (codes " at " ++ (decimal r.place ++ codes ")")))))
