-- The three forms of a fetch: which record the words of a fetch hold, and which words a record has. Document 02, request 2; the fields are
-- those of the tables in Tex and Vtx of crate formats, and what is taken is rule 8's, in Fetches of crate fetches.
use Rattle.std.specs.Prelude.{ℕ, Bool, cond, not, ◌&&◌, List, [], ◌∷◌, Option, Some, None}
use Rattle.bits.specs.Tables.{word_of, fits_table}
use Rattle.opcodes.specs.declared.cf.FetchKind.{FetchKind}
use Rattle.opcodes.specs.declared.cf.FetchKind.TheVariants.{Vertex, Texture}
use Rattle.opcodes.specs.Numbers.{fetch_taken}
use Rattle.formats.specs.Fields.{◌of◌, FETCH_INST}
use Rattle.formats.specs.Tex as tex
use Rattle.formats.specs.Vtx as vtx
use Rattle.fetches.specs.Fetches.{is_semantic}
use Rattle.fetch_codec.specs.declared.Fetch.{Fetch}
use Rattle.fetch_codec.specs.declared.Fetch.TheVariants.{Tex, VtxGpr, VtxSem}
use Rattle.fetch_codec.specs.declared.Clause.{Clause}
use Rattle.fetch_codec.specs.declared.Clause.TheVariants as clause

-- the kind of fetches in a clause: VTX and VTX_TC have the same
abbrev pub kind_of : Clause → FetchKind
kind_of clause.Tex = Texture
kind_of clause.Vtx = Vertex
kind_of clause.VtxTc = Vertex

-- ---- from words

-- a vertex fetch has a semantic id (number 1) or a destination register
abbrev pub vertex_of : ℕ → ℕ → ℕ → Fetch
vertex_of w0 w1 w2 =
    cond (is_semantic Vertex (FETCH_INST of w0)) (VtxSem (vtx.word0_of w0) (vtx.sem_of w1) (vtx.word2_of w2))
    (VtxGpr (vtx.word0_of w0) (vtx.gpr_of w1) (vtx.word2_of w2))

abbrev pub fetch_of : FetchKind → ℕ → ℕ → ℕ → Fetch
fetch_of Texture w0 w1 w2 = Tex (tex.word0_of w0) (tex.word1_of w1) (tex.word2_of w2)
fetch_of Vertex w0 w1 w2 = vertex_of w0 w1 w2

-- ---- to words

-- the kind of clause that a form stands in
abbrev pub form_kind : Fetch → FetchKind
form_kind (Tex a b c) = Texture
form_kind (VtxGpr a b c) = Vertex
form_kind (VtxSem a b c) = Vertex

-- no field exceeds its width: of word 0, of word 1, of word 2
abbrev pub word0_fits : Fetch → Bool
word0_fits (Tex a b c) = fits_table tex.word0_table (tex.word0_values a)
word0_fits (VtxGpr a b c) = fits_table vtx.word0_table (vtx.word0_values a)
word0_fits (VtxSem a b c) = fits_table vtx.word0_table (vtx.word0_values a)

abbrev pub word1_fits : Fetch → Bool
word1_fits (Tex a b c) = fits_table tex.word1_table (tex.word1_values b)
word1_fits (VtxGpr a b c) = fits_table vtx.gpr_table (vtx.gpr_values b)
word1_fits (VtxSem a b c) = fits_table vtx.sem_table (vtx.sem_values b)

abbrev pub word2_fits : Fetch → Bool
word2_fits (Tex a b c) = fits_table tex.word2_table (tex.word2_values c)
word2_fits (VtxGpr a b c) = fits_table vtx.word2_table (vtx.word2_values c)
word2_fits (VtxSem a b c) = fits_table vtx.word2_table (vtx.word2_values c)

abbrev pub fields_fit : Fetch → Bool
fields_fit f = word0_fits f && word1_fits f && word2_fits f

-- the numbers that the form of a fetch has: no number is one of two forms of a kind
abbrev pub takes_number : Fetch → ℕ → Bool
takes_number (Tex a b c) n = fetch_taken Texture n
takes_number (VtxGpr a b c) n = fetch_taken Vertex n && not (is_semantic Vertex n)
takes_number (VtxSem a b c) n = fetch_taken Vertex n && is_semantic Vertex n

-- its own number is one of them, so no words read back as another form
abbrev pub form_taken : Fetch → Bool
form_taken (Tex a b c) = takes_number (Tex a b c) a.tex_inst
form_taken (VtxGpr a b c) = takes_number (VtxGpr a b c) a.vtx_inst
form_taken (VtxSem a b c) = takes_number (VtxSem a b c) a.vtx_inst

abbrev pub encodable : Fetch → Bool
encodable f = fields_fit f && form_taken f

abbrev pub word0_of : Fetch → ℕ
word0_of (Tex a b c) = word_of tex.word0_table (tex.word0_values a)
word0_of (VtxGpr a b c) = word_of vtx.word0_table (vtx.word0_values a)
word0_of (VtxSem a b c) = word_of vtx.word0_table (vtx.word0_values a)

abbrev pub word1_of : Fetch → ℕ
word1_of (Tex a b c) = word_of tex.word1_table (tex.word1_values b)
word1_of (VtxGpr a b c) = word_of vtx.gpr_table (vtx.gpr_values b)
word1_of (VtxSem a b c) = word_of vtx.sem_table (vtx.sem_values b)

abbrev pub word2_of : Fetch → ℕ
word2_of (Tex a b c) = word_of tex.word2_table (tex.word2_values c)
word2_of (VtxGpr a b c) = word_of vtx.word2_table (vtx.word2_values c)
word2_of (VtxSem a b c) = word_of vtx.word2_table (vtx.word2_values c)

-- three words and a fourth that is 0, where they are a record's
abbrev pub words_if : Bool → ℕ → ℕ → ℕ → Option (List ℕ)
words_if is_record w0 w1 w2 = cond is_record (Some (w0 ∷ w1 ∷ w2 ∷ 0 ∷ [])) None

-- what the encoder makes of a record
abbrev pub words_of : Fetch → Option (List ℕ)
words_of f = words_if (encodable f) (word0_of f) (word1_of f) (word2_of f)
