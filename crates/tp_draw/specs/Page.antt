-- A picture as a page: the SVG file, the lines of the transcript beside it, and a script that steps through them.
use Rattle.std.specs.Prelude.{ℕ, List, [], ◌∷◌, ◌++◌, codes}
use Rattle.tp_model.specs.declared.out_line.OutLine.{OutLine}
use Rattle.tp_model.specs.OutText.{out_text}
use Rattle.tp_model.specs.Words.{decimal}
use Rattle.tp_draw.specs.declared.view.View.{View}
use Rattle.tp_draw.specs.Texts.{joined, escaped}
use Rattle.tp_draw.specs.Svg.{svg}

unfoldable pub page_head : List ℕ
page_head = joined (
    codes "<!doctype html>\n<html lang='en'>\n<head>\n<meta charset='utf-8'>\n<title>A run, line by line</title>\n"
    ∷ codes "<style>\n:root{color-scheme:light dark;--ground:#fff;--ink:#1f2328;--line:#afb8c1;--here:#fff3b0}\n"
    ∷ codes "@media(prefers-color-scheme:dark){:root{--ground:#0d1117;--ink:#e6edf3;--line:#57606a;--here:#3a3000}}\n"
    ∷ codes "body{margin:0;height:100vh;display:grid;grid-template:auto 1fr/3fr 2fr;font:13px monospace}\n"
    ∷ codes "body{background:var(--ground);color:var(--ink)}\n"
    ∷ codes "header{grid-column:1/3;display:flex;gap:12px;padding:8px;border-bottom:1px solid var(--line)}\n"
    ∷ codes "#at{flex:1}\n#picture{position:relative;overflow:auto}\nsvg{display:block}\n"
    ∷ codes "#veil{position:absolute;left:0;border-top:2px solid #2f81f7;background:var(--ground);opacity:.93}\n"
    ∷ codes "aside{display:flex;flex-direction:column;overflow:hidden;border-left:1px solid var(--line)}\n"
    ∷ codes "#nodes{overflow:auto;flex:none;max-height:50vh}\ntable{border-collapse:collapse;width:100%}\n"
    ∷ codes "th,td{padding:3px 8px;text-align:left;vertical-align:top;border-bottom:1px solid var(--line)}\n"
    ∷ codes "li,td{white-space:pre-wrap;overflow-wrap:anywhere}\nol{margin:0;padding:4px 0 4px 64px;overflow:auto}\n"
    ∷ codes "li{cursor:pointer}\nli[aria-current]{background:var(--here)}\n</style>\n</head>\n"
    ∷ [])

-- The rows that are shown go from one of these to the other. The slider is above the picture.
unfoldable pub page_body : ℕ → ℕ → List ℕ
page_body from to = joined (
    codes "<body data-from='"
    ∷ decimal from
    ∷ codes "' data-to='"
    ∷ decimal to
    ∷ codes "'>\n<header><label for='at'>line <output id='number'></output></label>\n"
    ∷ codes "<input id='at' type='range' autofocus></header>\n<div id='picture'>\n"
    ∷ [])

-- ---- the lines

-- between the picture and the lines: a veil over the rows that are still to come, and a table of the nodes
unfoldable pub page_aside : List ℕ
page_aside = joined (
    codes "<div id='veil'></div></div>\n<aside><div id='nodes'><table id='table'></table></div><ol>\n"
    ∷ [])

-- a line that has this text
unfoldable pub item : List ℕ → List ℕ
item text = joined (codes "<li>" ∷ escaped text ∷ codes "</li>\n" ∷ [])

abbrev pub items : List OutLine → List ℕ
items [] = []
items (o ∷ os) = item (out_text o) ++ items os

-- ---- the script

-- which nodes there are
unfoldable pub script_of_nodes : List ℕ
script_of_nodes = joined (
    codes "</ol></aside>\n<script>\n'use strict';\n"
    ∷ codes "const byId = id => document.getElementById(id), lines = [...document.querySelectorAll('li')];\n"
    ∷ codes "const words = lines.map(it => it.textContent.split(' '));\n\n"
    ∷ codes "// Each node that a line names, with its site.\nfunction allNodes() {\n  const nodes = new Map();\n"
    ∷ codes "  const add = (node, site) => nodes.set(node, { site: nodes.get(node)?.site || site || '' });\n"
    ∷ codes "  for (const w of words) {\n    if (w[0] == '>' && w[1] == 'node') add(w[2], w[3]);\n"
    ∷ codes "    if (w[0] == 'log' && w[2] != 'boot') add(w[3], w[1]);\n"
    ∷ codes "    if (w[0] == 'send') [w[2], w[3]].forEach(it => add(it));\n"
    ∷ codes "    if (w[0] == 'tell' || w[0] == 'state') add(w[1]);\n  }\n  return nodes;\n}\n\n"
    ∷ [])

-- what the lines say of each of them
unfoldable pub script_of_states : List ℕ
script_of_states = joined (
    codes "// What the lines up to that number say of each node.\nfunction nodesAt(number) {\n"
    ∷ codes "  const nodes = allNodes();\n"
    ∷ codes "  nodes.forEach(it => Object.assign(it, { state: '', down: false, told: '', log: [] }));\n"
    ∷ codes "  const ofSite = (site, change) => nodes.forEach(it => { if (it.site == site) change(it); });\n"
    ∷ codes "  const stop = it => { it.down = true; };\n"
    ∷ codes "  const start = it => { it.down = false; if (it.state == 'rolls back') it.state = ''; };\n"
    ∷ codes "  const states = { ready: 'in doubt', commit: 'committed', end: '' };\n"
    ∷ codes "  for (const w of words.slice(0, number)) {\n"
    ∷ codes "    if (w[0] == '>' && w[1] == 'crash' && w.length == 3) ofSite(w[2], stop);\n"
    ∷ codes "    if (w[0] == 'stopped') ofSite(w[1], stop);\n"
    ∷ codes "    if (w[0] == 'log' && w[2] == 'boot') ofSite(w[1], start);\n    else if (w[0] == 'log') {\n"
    ∷ codes "      const it = nodes.get(w[3]);\n      it.log.push(w.slice(2).join(' '));\n"
    ∷ codes "      if (w[2] in states) it.state = states[w[2]];\n"
    ∷ codes "      if (w[2] == 'damage') it.state = w.at(-2) == 'commit' ? 'committed' : 'rolled back';\n    }\n"
    ∷ codes "    if (w[0] == 'tell') {\n      const it = nodes.get(w[1]);\n      it.told = w.slice(2).join(' ');\n"
    ∷ codes "      if (w[2] == 'rollback' && it.state == '') it.state = 'rolls back';\n"
    ∷ codes "      if (w[2] == 'rollback-complete' && it.state == 'rolls back') it.state = '';\n    }\n  }\n"
    ∷ codes "  return nodes;\n}\n\n"
    ∷ [])

-- what is shown at each step
unfoldable pub script_of_steps : List ℕ
script_of_steps = joined (
    codes "// An element with these texts or elements, which stand in it as they are, never as markup.\n"
    ∷ codes "function made(kind, parts) {\n  const it = document.createElement(kind);\n  it.append(...parts);\n"
    ∷ codes "  return it;\n}\n\nconst row = (kind, cells) => made('tr', cells.map(it => made(kind, it)));\n"
    ∷ codes "const nodeRow = ([n, it]) => row('td', [[n], [it.site], [it.down ? 'down' : it.state], [it.told],\n"
    ∷ codes "  it.log.map(rec => made('div', [rec]))]);\n\n// Shows the run as it is after the line of that number.\n"
    ∷ codes "function show(number) {\n"
    ∷ codes "  const at = byId('at'), { width, height } = document.querySelector('svg').getBoundingClientRect();\n"
    ∷ codes "  at.value = number;\n  byId('number').textContent = at.value + ' of ' + lines.length;\n"
    ∷ codes "  lines.forEach((it, i) => it.toggleAttribute('aria-current', i + 1 == at.value));\n"
    ∷ codes "  const head = row('th', [['node'], ['site'], ['state'], ['told'], ['log']]);\n"
    ∷ codes "  byId('table').replaceChildren(head, ...[...nodesAt(at.value)].map(nodeRow));\n"
    ∷ codes "  const top = 60 + 20 * (at.value - Math.max(document.body.dataset.from - 1, 0));\n"
    ∷ codes "  byId('veil').style = `top:${top}px;width:${width}px;height:${Math.max(height - 180 - top, 0)}px`;\n"
    ∷ codes "  byId('picture').scrollTop = top - byId('picture').clientHeight / 2;\n"
    ∷ codes "  lines[at.value - 1]?.scrollIntoView({ block: 'nearest' });\n}\n\n"
    ∷ codes "const first = Number(document.body.dataset.from) + 1;\n"
    ∷ codes "Object.assign(byId('at'), { min: first, max: document.body.dataset.to, oninput: () => show(byId('at').value) });\n"
    ∷ codes "lines.forEach((it, i) => { it.onclick = () => show(i + 1); });\n"
    ∷ codes "window.onhashchange = () => show(location.hash.slice(1) || first);\nwindow.onhashchange();\n</script>\n"
    ∷ codes "</body>\n</html>\n"
    ∷ [])

-- ---- all of it

abbrev pub script : List ℕ
script = script_of_nodes ++ (script_of_states ++ script_of_steps)

-- what is beside the picture
abbrev pub beside : List OutLine → List ℕ
beside os = page_aside ++ (items os ++ script)

abbrev pub page : View → List OutLine → List ℕ
page v os = page_head ++ (page_body v.from v.to ++ (svg v os ++ beside os))
