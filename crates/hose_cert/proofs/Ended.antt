-- What writing the certificate of a plan comes to.
use Rattle.std.proofs.Common.{◌≡◌, ◌∙◌, ℕ, ◌+◌, ◌-◌, ◌<◌, ◌≤◌, true, List, [], ◌∷◌, ◌++◌, Ok, Err, codes, length, inr, refl, sym, ap, subst, arith, append_assoc}
use Rattle.std.specs.Prelude.{⊤}
use Rattle.std.specs.List.{flat_map, range_with_len}
use Rattle.std.proofs.lemmas.Grind.{flat_map-append}
use Rattle.hose_io.specs.steps.Gather.{Gathered, IsAdded}
use Rattle.hose_io.specs.Writing.{GrowsInPart}
use Rattle.hose_io.specs.steps.Writing.{IsPut}
use Rattle.hose_io.specs.declared.Failed.{Failed}
use Rattle.hose_io.specs.declared.sink.Sink.{Ghosts}
use Rattle.hose_io.proofs.Gathering.{IsAdded-next, none_gathered}
use Rattle.hose_io.proofs.Streams.{GrowsInPart-append}
use Rattle.hose_graph.specs.Hose.{IsHose}
use Rattle.hose_graph.specs.Network.{Network, IsNetwork}
use Rattle.hose_graph.specs.Row.{Distances}
use Rattle.hose_law.specs.CanonicalPlan.{IsCanonicalPlan}
use Rattle.hose_law.specs.Plan.{plan_cost}
use Rattle.hose_law.specs.steps.Plan.{AreNodes}
use Rattle.hose_law.specs.Row.{IsRow}
use Rattle.hose_law.specs.Walk.{all_links}
use Rattle.hose_cert.specs.steps.Adding.{AddsRoots}
use Rattle.hose_cert.specs.CertLine.{CertLine, end_line}
use Rattle.hose_cert.specs.Written.{AreRootRows, IsPlanText, first_lines, numbers_of, plan_lines, root_lines, roots_lines, certificate_text}
use Rattle.hose_cert.specs.steps.Written.{Writes}
use Rattle.hose_cert.specs.declared.fault.ProveFault.TheVariants.{Write, Memory}
use Rattle.hose_cert.proofs.Added.{flat_map_agree, range_split, text_append}
use Rattle.hose_cert.proofs.Numbered.{one_dist}
use Rattle.hose_cert.proofs.Valid.{text_valid}

module _ (network : Network) (is : IsNetwork network) (most : ℕ) where
  -- the lines of a root are the same by each of its rows
  same_root : (row other : Distances) (root : ℕ) → IsRow network (all_links network) root row → IsRow network (all_links network) root other
      → root_lines network root (numbers_of most row.dist) ≡ root_lines network root (numbers_of most other.dist)
  same_root row other root is_row is_other = ap (λ dist. root_lines network root (numbers_of most dist)) (one_dist network is (all_links network) most root row is_row other is_other)

  -- the lines of some roots are at the front of those of all
  front : (row_of other : ℕ → Distances) (made : ℕ) → made ≤ length network.nodes → ((root : ℕ) → root < made → IsRow network (all_links network) root (row_of root)) → AreRootRows network other
      → (more : List CertLine) × (roots_lines network most other (length network.nodes) ≡ roots_lines network most row_of made ++ more)
  front row_of other made within rows others =
      let lines_at : (ℕ → Distances) → ℕ → List CertLine = λ of root. root_lines network root (numbers_of most (of root).dist) in
      let rest : ℕ = length network.nodes - made in
      let all : length network.nodes ≡ made + rest = omega (arith, within) in (
        flat_map (lines_at other) (range_with_len made rest),
        ap (λ (n : ℕ). flat_map (lines_at other) (range_with_len 0 n)) all ∙ ap (flat_map (lines_at other)) (range_split made rest)
            ∙ flat_map-append (lines_at other) (range_with_len 0 made) (range_with_len made rest)
            ∙ ap (λ (ls : List CertLine). ls ++ flat_map (lines_at other) (range_with_len made rest))
            (flat_map_agree (lines_at other) (lines_at row_of) 0 made (λ k least below. same_root (other k) (row_of k) k (others k (omega (arith, below, within))) (rows k (omega (arith, below))))),
      )

  -- a network has the lines of one list of rows
  all_same : (row_of other : ℕ → Distances) → AreRootRows network row_of → AreRootRows network other
      → roots_lines network most row_of (length network.nodes) ≡ roots_lines network most other (length network.nodes)
  all_same row_of other rows others =
      flat_map_agree (λ root. root_lines network root (numbers_of most (row_of root).dist)) (λ root. root_lines network root (numbers_of most (other root).dist)) 0 (length network.nodes)
      (λ k least below. same_root (row_of k) (other k) k (rows k (omega (arith, below))) (others k (omega (arith, below))))

module _ {S : Type 0} (sink : Ghosts S) (network : Network) (is : IsNetwork network) (hose plan : List (ℕ × ℕ)) (is_hose : IsHose hose) (nodes : AreNodes network hose)
    (canonical : IsCanonicalPlan network (all_links network) hose plan) where
  abbrev most : ℕ
  most = plan_cost network plan

  abbrev made_lines : (ℕ → Distances) → ℕ → List CertLine
  made_lines row_of made = first_lines network hose plan ++ roots_lines network most row_of made

  -- the first lines were added, and then those of some roots
  module _ (g0 g1 g2 : Gathered) (s0 s1 s2 : S) (pairs : List (ℕ × ℕ)) (cost made : ℕ) (fresh : g0 ≡ none_gathered) (same : pairs ≡ plan) (costs : cost ≡ most)
      (first : IsAdded sink g0 s0 g1 s1 (certificate_text network (first_lines network hose pairs))) (roots : AddsRoots sink network cost g1 s1 g2 s2 made) where
    pub all_added : IsAdded sink none_gathered s0 g2 s2 (certificate_text network (made_lines roots.row_of made))
    all_added =
        let start : IsAdded sink none_gathered s0 g1 s1 (certificate_text network (first_lines network hose plan)) =
        subst (λ (g : Gathered). IsAdded sink g s0 g1 s1 (certificate_text network (first_lines network hose plan))) fresh
        (subst (λ (ps : List (ℕ × ℕ)). IsAdded sink g0 s0 g1 s1 (certificate_text network (first_lines network hose ps))) same first) in
        let more : IsAdded sink g1 s1 g2 s2 (certificate_text network (roots_lines network most roots.row_of made)) =
        subst (λ (n : ℕ). IsAdded sink g1 s1 g2 s2 (certificate_text network (roots_lines network n roots.row_of made))) costs roots.added in
        subst (IsAdded sink none_gathered s0 g2 s2) (sym (text_append network (first_lines network hose plan) (roots_lines network most roots.row_of made))) (IsAdded-next start more)

    -- and the end after those of all
    pub end_added : made ≡ length network.nodes → (g3 : Gathered) (s3 : S) → IsAdded sink g2 s2 g3 s3 (codes "end\n") → IsAdded sink none_gathered s0 g3 s3 (certificate_text network (plan_lines network hose plan roots.row_of))
    end_added all g3 s3 end =
        subst (IsAdded sink none_gathered s0 g3 s3) (sym (text_append network (made_lines roots.row_of (length network.nodes)) (end_line ∷ [])))
        (IsAdded-next (subst (λ (n : ℕ). IsAdded sink none_gathered s0 g2 s2 (certificate_text network (made_lines roots.row_of n))) all all_added) end)

  module _ (row_of : ℕ → Distances) (made : ℕ) (within : made ≤ length network.nodes) (rows : (root : ℕ) → root < made → IsRow network (all_links network) root (row_of root)) where
    front_lines : (other : ℕ → Distances) → AreRootRows network other → (more : List CertLine) × (plan_lines network hose plan other ≡ made_lines row_of made ++ more)
    front_lines other others =
        let at = front network is most row_of other made within rows others in (
          at.0 ++ end_line ∷ [],
          ap (λ (ls : List CertLine). (first_lines network hose plan ++ ls) ++ end_line ∷ []) at.1
              ∙ ap (λ (ls : List CertLine). ls ++ end_line ∷ []) (sym (append_assoc (first_lines network hose plan) (roots_lines network most row_of made) at.0))
              ∙ append_assoc (made_lines row_of made) at.0 (end_line ∷ []),
        )

    -- the sink failed in these lines
    pub cut_in_lines : (was now : S) (error : Failed) → IsPut {T = ⊤} sink was now (certificate_text network (made_lines row_of made)) (Err error) → Writes sink network hose was now (Err Write)
    cut_in_lines was now error put = (record { plan = plan; canonical = canonical; out = out }, put.met.failed refl)
      where
        out : (text : List ℕ) → IsPlanText network hose plan text → GrowsInPart (sink.content was) (sink.content now) text
        out text is_text =
            let at = front_lines is_text.row_of is_text.rows in
            let whole : text ≡ certificate_text network (made_lines row_of made) ++ certificate_text network at.0 =
            is_text.spelled ∙ ap (certificate_text network) at.1 ∙ text_append network (made_lines row_of made) at.0 in
            subst (GrowsInPart (sink.content was) (sink.content now)) (sym whole) (GrowsInPart-append _ _ (certificate_text network (made_lines row_of made)) (certificate_text network at.0) put.err)

    -- these lines are out, and memory was wanting
    pub ends_by_lines : (was now : S) → IsPut {T = ⊤} sink was now (certificate_text network (made_lines row_of made)) (Ok tt) → Writes sink network hose was now (Err Memory)
    ends_by_lines was now put = (inr (record { plan = plan; canonical = canonical; lines = made_lines row_of made; out = put.ok; front = front_lines }), put.met.ok)

  module _ (row_of : ℕ → Distances) (rows : AreRootRows network row_of) where
    abbrev whole_text : List ℕ
    whole_text = certificate_text network (plan_lines network hose plan row_of)

    is_plan_text : IsPlanText network hose plan whole_text
    is_plan_text = record { canonical = canonical; row_of = row_of; rows = rows; spelled = refl }

    one_text : (text : List ℕ) → IsPlanText network hose plan text → text ≡ whole_text
    one_text text is_text =
        is_text.spelled
        ∙ ap (λ (ls : List CertLine). certificate_text network (first_lines network hose plan ++ ls ++ end_line ∷ [])) (all_same network is most is_text.row_of row_of is_text.rows rows)

    -- the sink failed in the whole text
    pub cut_in_text : (was now : S) (error : Failed) → IsPut {T = ⊤} sink was now whole_text (Err error) → Writes sink network hose was now (Err Write)
    cut_in_text was now error put = (
      record {
        plan = plan;
        canonical = canonical;
        out = λ text is_text. subst (GrowsInPart (sink.content was) (sink.content now)) (sym (one_text text is_text)) put.err;
      },
      put.met.failed refl,
    )

    -- the whole text is out
    pub ends_whole : (was now : S) → IsPut {T = ⊤} sink was now whole_text (Ok tt) → Writes sink network hose was now (Ok true)
    ends_whole was now put = (
      record {
        plan = plan;
        text = whole_text;
        is_text = is_plan_text;
        valid = text_valid network is hose plan is_hose nodes canonical whole_text is_plan_text;
        out = put.ok;
      },
      put.met.ok,
    )
