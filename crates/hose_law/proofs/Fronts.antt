-- Beginnings of histories.
use Rattle.std.proofs.Common.{◌≡◌, ◌≤◌, List, ◌∷◌, [], ◌++◌, length, take, refl, sym, ap, ◌∙◌, arith, append_assoc, append-nil}
use Rattle.std.proofs.lemmas.List.{length-append}
use Rattle.std.proofs.Math.Seq.{take-append_seam}
use mathlib.Core.List.{IsPrefix}
use Rattle.hose_graph.specs.declared.entry.Entry.{Entry}

pub prefix_same : (all : List Entry) → IsPrefix all all
prefix_same all = ([], append-nil all)

pub prefix_on : (one two three : List Entry) → IsPrefix one two → IsPrefix two three → IsPrefix one three
prefix_on one two three (rest, same) (more, there) = (rest ++ more, sym (append_assoc one rest more) ∙ ap (λ (l : List Entry). l ++ more) same ∙ there)

pub prefix_push : (one all : List Entry) (entry : Entry) → IsPrefix one all → IsPrefix one (all ++ entry ∷ [])
prefix_push one all entry prefix = prefix_on one all (all ++ entry ∷ []) prefix (entry ∷ [], refl)

pub prefix_length : (one two : List Entry) → IsPrefix one two → length one ≤ length two
prefix_length one two (rest, same) = let a = length-append one rest in let b = ap length same in omega arith

pub front_of : (one two : List Entry) → IsPrefix one two → take (length one) two ≡ one
front_of one two (rest, same) = ap (take (length one)) (sym same) ∙ take-append_seam one rest
