-- Worked examples, by computation: the fetch of examples/texture.pack as text, edited, and settings that are wrong.
use mathlib.Core.Path.{◌≡◌, refl}
use mathlib.Core.List.{List}
use Rattle.std.specs.Prelude.{Option, Some, None}
use Prim.Native.Nat.{ℕ}
use Rattle.ascii.specs.Ascii.{ascii}
use Rattle.ascii.specs.Decimal.{decimal, decimal_within, all_digits, digits_value}
use Rattle.card.specs.Text.{begins_with, is_decimal, number_of, number_in}
use Rattle.formats.specs.Tex as tex
use Rattle.report.specs.Settings.{setting_lines, settings_text}
use Rattle.settings.specs.Setting.{setting_from, changed_by}
use Rattle.opcodes.specs.declared.cf.FetchKind.TheVariants.{Texture}
use Rattle.opcodes.specs.Numbers.{texture_fetches, fetch_taken}
use Rattle.fetch_codec.specs.declared.Fetch.{Fetch}
use Rattle.fetch_codec.specs.Fetch.{fetch_of, word2_of}
use Rattle.codec_for_c.specs.FetchValues.{fetch_in}
use Rattle.fetch_text.specs.declared.EditError.{EditError}
use Rattle.fetch_text.specs.declared.EditError.TheVariants.{Wrong}
use Rattle.fetch_text.specs.declared.Fault.TheVariants.{NoField, NoNumber, TooWide, NotTaken}
use Rattle.fetch_text.specs.Text.{form_fields, keys_of, widths_of, text_of}
use Rattle.fetch_text.specs.Edit.{lines_in, fault_of, first_fault, edited}

-- SAMPLE from register 0 into register 1: words 00000010 F00D1001 68800000 00000000
abbrev sample : Fetch
sample = fetch_of Texture 16 4027387905 1753219072

its_text : text_of sample ≡ ascii "TEX_INST=16\nBC_FRAC_MODE=0\nRESERVED0_6=0\nFETCH_WHOLE_QUAD=0\nRESOURCE_ID=0\nSRC_GPR=0\nSRC_REL=0\nALT_CONST=0\nRESERVED0_25=0\nDST_GPR=1\nDST_REL=0\nRESERVED1_8=0\nDST_SEL_X=0\nDST_SEL_Y=1\nDST_SEL_Z=2\nDST_SEL_W=3\nLOD_BIAS=0\nCOORD_TYPE_X=1\nCOORD_TYPE_Y=1\nCOORD_TYPE_Z=1\nCOORD_TYPE_W=1\nOFFSET_X=0\nOFFSET_Y=0\nOFFSET_Z=0\nSAMPLER_ID=0\nSRC_SEL_X=0\nSRC_SEL_Y=1\nSRC_SEL_Z=2\nSRC_SEL_W=3\n"
unfolding settings_text setting_lines decimal decimal_within keys_of form_fields tex.word0_fields tex.word1_fields tex.word2_fields
its_text = refl

-- one texel to the left: OFFSET_X stands in the lowest five bits of word 2
moved : word2_of (edited sample (lines_in (ascii "OFFSET_X=30"))) ≡ 1753219102
unfolding lines_in changed_by setting_from begins_with number_in number_of is_decimal all_digits digits_value keys_of form_fields tex.word0_fields tex.word1_fields tex.word2_fields fetch_in
moved = refl

-- ---- what is wrong first

abbrev said : List ℕ → Option EditError
said text = first_fault sample 0 (lines_in text)

nothing : said (ascii "OFFSET_X=30\nOFFSET_Y=31\n") ≡ None
unfolding lines_in first_fault fault_of widths_of setting_from begins_with number_in number_of is_decimal all_digits digits_value keys_of form_fields tex.word0_fields tex.word1_fields tex.word2_fields
nothing = refl

too_wide : said (ascii "OFFSET_X=30\nOFFSET_Y=32") ≡ Some (Wrong 12 TooWide)
unfolding lines_in first_fault fault_of widths_of setting_from begins_with number_in number_of is_decimal all_digits digits_value keys_of form_fields tex.word0_fields tex.word1_fields tex.word2_fields
too_wide = refl

no_field : said (ascii "SEMANTIC_ID=1") ≡ Some (Wrong 0 NoField)
unfolding lines_in first_fault fault_of widths_of setting_from begins_with number_in number_of is_decimal all_digits digits_value keys_of form_fields tex.word0_fields tex.word1_fields tex.word2_fields
no_field = refl

no_number : said (ascii "OFFSET_X=-1") ≡ Some (Wrong 0 NoNumber)
unfolding lines_in first_fault fault_of widths_of setting_from begins_with number_in number_of is_decimal all_digits digits_value keys_of form_fields tex.word0_fields tex.word1_fields tex.word2_fields
no_number = refl

another_number : said (ascii "LOD_BIAS=1\nTEX_INST=9") ≡ Some (Wrong 11 NotTaken)
unfolding fetch_taken texture_fetches lines_in first_fault fault_of widths_of setting_from begins_with number_in number_of is_decimal all_digits digits_value keys_of form_fields tex.word0_fields tex.word1_fields tex.word2_fields
another_number = refl
