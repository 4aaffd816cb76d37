-- What the record of each word keeps as values of a row: its values are as many as it has fields, and it is read from them wherever they stand.
use mathlib.Core.Path.{refl}
use Rattle.std.specs.Prelude.{ℕ, ◌≡◌, List, length, drop}
use Rattle.std.proofs.lemmas.List.{get_or-drop}
use Rattle.formats.specs.Cf as cf
use Rattle.formats.specs.CfAlu as cf_alu
use Rattle.formats.specs.Export as export
use Rattle.formats.specs.Alu as alu
use Rattle.formats.specs.Tex as tex
use Rattle.formats.specs.Vtx as vtx
use Rattle.codec_for_c.specs.Values.{cf_alu_word0_row, cf_alu_word1_row, cf_word0_row, cf_word1_row}

pub record InRowLaws {W : Type 0} (count : ℕ) (row_values : W → List ℕ) (at : ℕ → List ℕ → W) : Type 0 where
  pub counted : (r : W) → length (row_values r) ≡ count
  pub at_drop : (k : ℕ) (vs : List ℕ) → at 0 (drop k vs) ≡ at k vs

pub cf_alu_word0_in_row : InRowLaws 4 cf_alu_word0_row cf_alu.word0_at
cf_alu_word0_in_row = record { counted = λ r. refl; at_drop = λ k vs. simp get_or-drop }

pub cf_alu_word1_in_row : InRowLaws 8 cf_alu_word1_row cf_alu.word1_at
cf_alu_word1_in_row = record { counted = λ r. refl; at_drop = λ k vs. simp get_or-drop }

pub cf_word0_in_row : InRowLaws 1 cf_word0_row cf.word0_at
cf_word0_in_row = record { counted = λ r. refl; at_drop = λ k vs. simp get_or-drop }

pub cf_word1_in_row : InRowLaws 11 cf_word1_row cf.word1_at
cf_word1_in_row = record { counted = λ r. refl; at_drop = λ k vs. simp get_or-drop }

pub export_word0_in_row : InRowLaws 6 export.word0_values export.word0_at
export_word0_in_row = record { counted = λ r. refl; at_drop = λ k vs. simp get_or-drop }

pub export_word1_in_row : InRowLaws 11 export.word1_values export.word1_at
export_word1_in_row = record { counted = λ r. refl; at_drop = λ k vs. simp get_or-drop }

pub alu_word0_in_row : InRowLaws 11 alu.word0_values alu.word0_at
alu_word0_in_row = record { counted = λ r. refl; at_drop = λ k vs. simp get_or-drop }

pub op2_in_row : InRowLaws 12 alu.op2_values alu.op2_at
op2_in_row = record { counted = λ r. refl; at_drop = λ k vs. simp get_or-drop }

pub op3_in_row : InRowLaws 10 alu.op3_values alu.op3_at
op3_in_row = record { counted = λ r. refl; at_drop = λ k vs. simp get_or-drop }

pub tex_word0_in_row : InRowLaws 9 tex.word0_values tex.word0_at
tex_word0_in_row = record { counted = λ r. refl; at_drop = λ k vs. simp get_or-drop }

pub tex_word1_in_row : InRowLaws 12 tex.word1_values tex.word1_at
tex_word1_in_row = record { counted = λ r. refl; at_drop = λ k vs. simp get_or-drop }

pub tex_word2_in_row : InRowLaws 8 tex.word2_values tex.word2_at
tex_word2_in_row = record { counted = λ r. refl; at_drop = λ k vs. simp get_or-drop }

pub vtx_word0_in_row : InRowLaws 8 vtx.word0_values vtx.word0_at
vtx_word0_in_row = record { counted = λ r. refl; at_drop = λ k vs. simp get_or-drop }

pub vtx_gpr_in_row : InRowLaws 12 vtx.gpr_values vtx.gpr_at
vtx_gpr_in_row = record { counted = λ r. refl; at_drop = λ k vs. simp get_or-drop }

pub vtx_sem_in_row : InRowLaws 11 vtx.sem_values vtx.sem_at
vtx_sem_in_row = record { counted = λ r. refl; at_drop = λ k vs. simp get_or-drop }

pub vtx_word2_in_row : InRowLaws 6 vtx.word2_values vtx.word2_at
vtx_word2_in_row = record { counted = λ r. refl; at_drop = λ k vs. simp get_or-drop }
