-- The words that the proofs share, of std, of the crates below and of this crate.
pub use Rattle.std.proofs.Common.{All, Bool, Err, List, None, Ok, Option, Result, Some, [], ap, append-nil, arith, bit_or, drop, false, inl, inr, leb, length, nat_eq, not, refl, replicate, rules, slice_index, slice_set, subst, suc, sym, take, true, vec_len, zero, ℕ, ◌%◌, ◌&&◌, ◌*◌, ◌++◌, ◌+◌, ◌-◌, ◌/◌, ◌<◌, ◌==◌, ◌||◌, ◌∙◌, ◌∷◌, ◌≡◌, ◌≢◌, ◌≤◌, ◌⊎◌}
pub use Rattle.std.proofs.KnownBytes.{Appends-trans, Consumes-trans}
pub use Rattle.std.proofs.lemmas.Bool.{agree_below_at, and_from, and_parts, cases_Bool, cases_lt, eqb-true, le-ltb, lt-ltb, not-true, or_cases}
pub use Rattle.std.proofs.lemmas.Bool.Decides.{nat_tests}
pub use Rattle.std.proofs.lemmas.Fn.{filter_same}
pub use Rattle.std.proofs.lemmas.Iterator.Adapters.{position_from-zero}
pub use Rattle.std.proofs.lemmas.List.{drop-drop, drop_all, drop_at, length-append, length-drop, length-set, length-take, take_at, take_rest}
pub use Rattle.std.proofs.lemmas.List.Elements.{All-drop, filter-append}
pub use Rattle.std.proofs.lemmas.List.Folds.{list_all-append}
pub use Rattle.std.proofs.lemmas.List.Sums.{AllPass-from_list_all, list_all-from_AllPass}
pub use Rattle.std.specs.Io.KnownBytes.{Appends, Consumes, IsAtEnd}
pub use Rattle.std.specs.List.{filter, list_all, position, position_from, prefix_len}
pub use Rattle.std.specs.Prelude.{IfSome, IsErrAnd, ⊤}
pub use Rattle.base64.proofs.EngineFacts.{decode_of-encode_of, decode_of_strict}
pub use Rattle.base64.specs.GeneralPurpose.{IsBytes, IsConsistent, IsStrict, SameEngine, decode_of, encode_of, encoded_size_of, engine_symbols}
pub use Rattle.base64.specs.declared.decode.DecodeError.{DecodeError}
pub use Rattle.base64.specs.declared.engine.general_purpose.GeneralPurpose.{GeneralPurpose}
unfoldable pub use Rattle.key_files.specs.Base64Text.{base64_meaning, symbol_text_meaning}
pub use Rattle.key_files.specs.Base64Text.{FilesEncode, IsBase64Of, alphabet_at, alphabet_of, base64_fault_of, base64_line, before_padding, decoded_meaning, encoding, encoding_of, first_foreign, first_no_padding, first_of_one, has_padding, is_allowed, is_padding, is_standard, is_url_safe, kept, misplaced, output_encoding, place_fault, placed_meaning, symbols_meaning}
pub use Rattle.key_files.specs.Decoding.{DecodesHex, DecodesText}
unfoldable pub use Rattle.key_files.specs.FileMeaning.{digit_text_meaning, file_meaning, hex_meaning}
pub use Rattle.key_files.specs.FileMeaning.{digits_meaning, raw_meaning}
pub use Rattle.key_files.specs.FileReading.{IsMeaning, ReadsAs, ReadsToEnd, answer_of}
unfoldable pub use Rattle.key_files.specs.HexText.{paired}
pub use Rattle.key_files.specs.HexText.{digits_of, first_bad, hex_line, is_allowed_blank, is_hex_digit, is_skipped}
pub use Rattle.key_files.specs.Writing.{IsLine, PrintsAs}
pub use Rattle.key_files.specs.declared.base64_text.Alphabet.{Alphabet}
pub use Rattle.key_files.specs.declared.fault.FileFault.{FileFault}
pub use Rattle.key_files.specs.declared.hex_text.Blanks.{Blanks}
