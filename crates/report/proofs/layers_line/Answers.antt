-- `report::layers_line` meets its contract. Assumes nothing.
use Prim.Native.Nat.{ℕ, ◌+◌, ◌≤◌}
use mathlib.Core.Path.{refl}
use mathlib.Core.List.{List, [], ◌∷◌, ◌++◌}
use lib.ListN.{length}
use Rattle.theory_basics.specs.Lists.{up_to}
use Rattle.theory_basics.specs.Text.{ascii, digits, text, line}
use Rattle.report.specs.lemmas.Tables.{count_by}
use Rattle.core_text.specs.lemmas.Places.{Put, put_room, put_then, room_first}
use Rattle.core_text.specs.lemmas.Texts.{ended_text}
use Rattle.report.proofs.layers_line.Goals as goal

abbrev counts : List ℕ → List ℕ → ℕ → ℕ → List ℕ
counts sizes table count depth = text (up_to (λ n. 32 ∷ digits (count_by sizes table count n)) depth)

abbrev end : List ℕ
end = 10 ∷ []

-- The line is its word, the counts and the line feed.
room : (sizes table out : List ℕ) (count depth at : ℕ) → at + length (line (ascii "layers") (up_to (λ n. digits (count_by sizes table count n)) depth)) ≤ length out → at + length (ascii "layers" ++ (counts sizes table count depth ++ end)) ≤ length out
room sizes table out count depth at h = rw (ended_text (λ n. digits (count_by sizes table count n)) depth) at h

pub layer_counts-end-requires : goal.layer_counts-end-requires
layer_counts-end-requires c =
    let a = c.args in
    let t = counts a.sizes.now a.table.now a.count a.depth in
    let h = room a.sizes.now a.table.now a.out.now a.count a.depth a.at c.requires.2 in
    let p : Put a.out.now a.at (ascii "layers") _ (a.at + 6) = record { buffer = c.put.ensures; place = refl } in
    (c.requires.0, c.requires.1, room_first (a.at + 6) t end (put_room (ascii "layers") (t ++ end) h p))

pub put_end-requires : goal.put_end-requires
put_end-requires c =
    let a = c.args in
    let t = counts a.sizes.now a.table.now a.count a.depth in
    let h = room a.sizes.now a.table.now a.out.now a.count a.depth a.at c.requires.2 in
    let p : Put a.out.now a.at (ascii "layers") _ (a.at + 6) = record { buffer = c.put.ensures; place = refl } in
    put_room t end (put_room (ascii "layers") (t ++ end) h p) c.layer_counts-end.ensures

pub returns : goal.returns
returns c =
    let a = c.args in
    let t = counts a.sizes.now a.table.now a.count a.depth in
    let h = room a.sizes.now a.table.now a.out.now a.count a.depth a.at c.requires.2 in
    let p : Put a.out.now a.at (ascii "layers") _ (a.at + 6) = record { buffer = c.put.ensures; place = refl } in
    rw (ended_text (λ n. digits (count_by a.sizes.now a.table.now a.count n)) a.depth)
    (put_then (ascii "layers") (t ++ end) h p (put_then t end (put_room (ascii "layers") (t ++ end) h p) c.layer_counts-end.ensures c.put_end.ensures))
