-- What is the same in each SVG file: its colors, the tips of its arrows, and the legend.
use Rattle.std.specs.Prelude.{ℕ, List, [], ◌∷◌, codes}
use Rattle.tp_draw.specs.Texts.{joined}

-- Blue and orange are told apart by those who do not tell red from green. Each sign differs by its form too.
unfoldable pub style : List ℕ
style = joined (
    codes "<style>text{white-space:pre;fill:currentColor}\n"
    ∷ codes ".p{color:#1f2328}.f{color:#656d76}.c{color:#0058a8}.r{color:#b84300}.d{color:#8a3380}\n"
    ∷ codes ".g{fill:#fff}.b{fill:#eaeef2}.e{fill:#808080;fill-opacity:.1}.s{fill:#2f81f7;fill-opacity:.2}\n"
    ∷ codes ".t{fill:currentColor;fill-opacity:.15}.v{stroke:#afb8c1}.a{fill:none;stroke:currentColor}\n"
    ∷ codes ".l{paint-order:stroke;stroke:#fff;stroke-width:3px}.m{fill:currentColor}\n"
    ∷ codes ".h{fill:#fff;stroke:currentColor;stroke-width:1.5}.x{fill:none;stroke:currentColor;stroke-width:2}\n"
    ∷ codes ".i{fill:url(#i)}.y{fill:#79b4e8}.o{fill:#f2a36b}.k{fill:#fff;stroke:#1f2328;stroke-width:1.5}\n"
    ∷ codes "@media(prefers-color-scheme:dark){.p{color:#e6edf3}.f{color:#9198a1}.c{color:#6cb6ff}\n"
    ∷ codes ".r{color:#f69d50}.d{color:#dcbdfb}.g,.h,.k{fill:#0d1117}.b{fill:#212830}.v{stroke:#57606a}\n"
    ∷ codes ".l{stroke:#0d1117}.k{stroke:#e6edf3}.y{fill:#1f5f99}.o{fill:#8a4a1c}}</style>\n"
    ∷ [])

-- the tips of arrows in each tone, the ends of arrows that reach no lane, the hatching, and the ground
unfoldable pub tips : List ℕ
tips = joined (
    codes "<defs>\n<marker id='p' viewBox='0 0 8 8' refX='8' refY='4' markerWidth='7' markerHeight='7' orient='auto'>"
    ∷ codes "<path class='m p' d='M0 0L8 4L0 8z'/></marker>\n"
    ∷ codes "<marker id='c' viewBox='0 0 8 8' refX='8' refY='4' markerWidth='7' markerHeight='7' orient='auto'>"
    ∷ codes "<path class='m c' d='M0 0L8 4L0 8z'/></marker>\n"
    ∷ codes "<marker id='r' viewBox='0 0 8 8' refX='8' refY='4' markerWidth='7' markerHeight='7' orient='auto'>"
    ∷ codes "<path class='m r' d='M0 0L8 4L0 8z'/></marker>\n"
    ∷ codes "<marker id='d' viewBox='0 0 8 8' refX='8' refY='4' markerWidth='7' markerHeight='7' orient='auto'>"
    ∷ codes "<path class='m d' d='M0 0L8 4L0 8z'/></marker>\n"
    ∷ codes "<marker id='x' viewBox='0 0 8 8' refX='4' refY='4' markerWidth='9' markerHeight='9'>"
    ∷ codes "<path class='x p' d='M1 1L7 7M1 7L7 1'/></marker>\n"
    ∷ codes "<marker id='n' viewBox='0 0 8 8' refX='4' refY='4' markerWidth='7' markerHeight='7'>"
    ∷ codes "<circle class='h f' cx='4' cy='4' r='3'/></marker>\n"
    ∷ codes "<pattern id='i' width='5' height='5' patternUnits='userSpaceOnUse'><rect class='g' width='5' height='5'/>"
    ∷ codes "<path class='a p' d='M-1 1L1 -1M0 5L5 0M4 6L6 4'/></pattern>\n"
    ∷ codes "</defs>\n<rect class='g' width='100%' height='100%'/>\n"
    ∷ [])

-- what each sign, band and color means
unfoldable pub legend : List ℕ
legend = joined (
    codes "<path class='a p' d='M8 10H34' marker-end='url(#p)'/><text class='p' x='44' y='14'>frame, from send to take</text>\n"
    ∷ codes "<path class='a p' d='M8 28H34' stroke-dasharray='6 3' marker-end='url(#p)'/>"
    ∷ codes "<text class='p' x='44' y='32'>the same frame again</text>\n"
    ∷ codes "<path class='a p' d='M8 46H30' marker-end='url(#x)'/><text class='p' x='44' y='50'>lost, dropped or refused</text>\n"
    ∷ codes "<path class='a p' d='M8 64H30' stroke-dasharray='2 4' marker-end='url(#n)'/>"
    ∷ codes "<text class='p' x='44' y='68'>not delivered</text>\n"
    ∷ codes "<path class='m p' d='M18 78h8v8h-8z'/><text class='p' x='44' y='86'>record in the log</text>\n"
    ∷ codes "<path class='h p' d='M18 96h8v8h-8z'/><text class='p' x='44' y='104'>heuristic decision</text>\n"
    ∷ codes "<circle class='h p' cx='22' cy='118' r='4'/><text class='p' x='44' y='122'>the user is told</text>\n"
    ∷ codes "<circle class='m p' cx='22' cy='136' r='4'/><text class='p' x='44' y='140'>the node's state</text>\n"
    ∷ codes "<path class='i' d='M251 2h10v16h-10z'/><text class='p' x='276' y='14'>in doubt</text>\n"
    ∷ codes "<path class='y' d='M251 20h10v16h-10z'/><text class='p' x='276' y='32'>committed</text>\n"
    ∷ codes "<path class='o' d='M251 38h10v16h-10z'/><text class='p' x='276' y='50'>rolled back</text>\n"
    ∷ codes "<path class='k' d='M251 57h10v14h-10zl10 14m0-14l-10 14'/><text class='p' x='276' y='68'>crash, until the boot</text>\n"
    ∷ codes "<path class='s' d='M242 74h28v16h-28z'/><text class='p' x='276' y='86'>boot of a site</text>\n"
    ∷ codes "<path class='e' d='M242 92h28v16h-28z'/><text class='p' x='276' y='104'>event of the schedule</text>\n"
    ∷ codes "<text class='c' x='242' y='122'>commit</text><text class='r' x='300' y='122'>rollback</text>\n"
    ∷ codes "<text class='d' x='372' y='122'>damage</text>\n</g>\n</svg>\n"
    ∷ [])
