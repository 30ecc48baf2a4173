use Rattle.std.proofs.Common.{◌≡◌, ◌≢◌, ◌∙◌, inl, inr, sym, true, false, rules, take, drop, ap, ◌++◌, List, ℕ, refl, get_or}
use Rattle.hose_journal.specs.declared.layout.TheConstants.{MARK}
use Rattle.hose_journal.specs.Image.{IsVersion, head}
use Rattle.hose_journal.proofs.Openings.{begun_long, head_of}
use Rattle.hose_journal.proofs.opening.check_head.Goals as goal

pub returns-then-not-is_same-2 : goal.returns-then-not-is_same-2
returns-then-not-is_same-2 c =
    let front = c.args.front.now in
    let kept = c.copy_from_slice.new.self in
    let mark : take 4 (drop 1 front) ≡ MARK = search rules in
    let is_version : IsVersion (get_or front 5 0) = elim c.else-version-ne-PLAIN.either [ inl other ↦ inr other.1 | inr plain ↦ inl plain ] in
    let is = head_of front kept (get_or front 5 0) (begun_long front c.requires) (search rules) mark refl c.copy_from_slice.ensures.after in
    let differs : kept ≢ c.args.digest.now = λ equal. (let clash : false ≡ true = sym c.if-not-is_same-2.true ∙ c.is_same-2.ensures.1 equal in cc) in (
      record { version = get_or front 5 0; is_version = is_version; rest = is.0; some = is.1; size = c.copy_from_slice.ensures.len; is = is.2; differs = differs },
      refl,
    )

pub returns : goal.returns
returns c =
    let front = c.args.front.now in
    let kept = c.copy_from_slice.new.self in
    let mark : take 4 (drop 1 front) ≡ MARK = search rules in
    let same : kept ≡ c.args.digest.now = search rules in
    let is_version : IsVersion (get_or front 5 0) = elim c.else-version-ne-PLAIN.either [ inl other ↦ inr other.1 | inr plain ↦ inl plain ] in
    let is = head_of front kept (get_or front 5 0) (begun_long front c.requires) (search rules) mark refl c.copy_from_slice.ensures.after in
    record {
      version = get_or front 5 0;
      is_version = is_version;
      chained_is = refl;
      rest = is.0;
      some = is.1;
      is = is.2 ∙ ap (λ (digest : List ℕ). head (get_or front 5 0) digest ++ is.0) same;
    }
